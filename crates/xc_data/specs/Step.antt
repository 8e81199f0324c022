-- Something before and after.
-- how it was, and how it is
pub record Step (A : Type 0) : Type 0 where
  pub old : A
  pub new : A
