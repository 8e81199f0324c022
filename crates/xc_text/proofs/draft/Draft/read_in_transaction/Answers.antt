use Rattle.std.proofs.Common.{◌≡◌, true, false, rules}
use Rattle.xc_text.specs.Inner.{is_open}
use Rattle.xc_text.proofs.draft.Draft.read_in_transaction.Goals as goal

pub returns-then-is_open : goal.returns-then-is_open
returns-then-is_open c =
    let within : is_open c.args.self.now.body ≡ true = search rules in
    rw within c.read_inner.ensures

pub returns : goal.returns
returns c =
    let closed : is_open c.args.self.now.body ≡ false = search rules in
    rw closed c.read_outer.ensures
