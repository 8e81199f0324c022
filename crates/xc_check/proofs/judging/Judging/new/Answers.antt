use Rattle.std.proofs.Common.{[], refl, arith}
use Rattle.xc_check.proofs.judging.Judging.new.Goals as goal

pub returns : goal.returns
returns c rules count =
    record {
      front = [];
      shows = refl;
      is_true = record {
        numbered = record {
          within = λ k d h. absurd (omega (arith, h));
          apart = λ i k a b h. cc;
          order = λ i k a b h. cc;
        };
        machine = refl;
        asked = refl;
      };
      course = c.in_ok-new.ensures.value;
      asked = c.in_ok-new-2.ensures;
      parts_are = c.new-3.ensures.items;
      opens = λ tx positive new. c.in_ok-new.ensures.open tx positive;
    }
