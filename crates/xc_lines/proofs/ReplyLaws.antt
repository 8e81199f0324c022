-- Replies and the ends of late calls that were printed are read again.
use Rattle.std.proofs.Common.{◌≡◌, ℕ, ◌^◌, ◌<◌, List, [], ◌∷◌, ◌++◌, Some, refl, ap, ◌∙◌, append_assoc}
use Rattle.std.specs.Prelude.{codes}
use Rattle.std.specs.Fmt.{decimal}
use Rattle.xc_data.specs.declared.call.Reply.{Reply}
use Rattle.xc_data.specs.declared.call.Reply.TheVariants as reply
use Rattle.xc_data.specs.declared.call.LateEnd.{LateEnd}
use Rattle.xc_data.specs.declared.call.LateEnd.TheVariants as late_end
use Rattle.xc_print.specs.Objects.{handle_text}
use Rattle.xc_print.specs.Replies.{reply_text, late_end_text}
use Rattle.xc_lines.specs.Ranges.{IsReplyInRange, IsLateEndInRange}
use Rattle.xc_lines.specs.Replies.{got_from, fault_at, made_from, count_at, undone_reply_at, plain_at, refused_reply_at, reply_at, full_at, late_fault_at}
use Rattle.xc_lines.specs.Replies.{no_memory_end_at, late_end_at}
use Rattle.xc_lines.proofs.Spelled.{number_again, small_again, not_past}
use Rattle.xc_lines.proofs.QuotedLaws.{literal_again, quoted}
use Rattle.xc_lines.proofs.Fields.{bare_again, handle_is, handle_again}

-- a number isn't a word of replies
not_words : (n : ℕ) (rest : List ℕ) → n < 2 ^ 64 → reply_at (decimal n ++ rest) ≡ count_at (decimal n ++ rest)
unfolding reply_at plain_at refused_reply_at
not_words n rest small =
    rw (
      not_past 102 (codes "ault ") n rest small refl,
      not_past 34 [] n rest small refl,
      not_past 104 [] n rest small refl,
      not_past 100 (codes "one faults ") n rest small refl,
      not_past 100 (codes "one") n rest small refl,
      not_past 101 (codes "nd") n rest small refl,
      not_past 101 (codes "mpty") n rest small refl,
      not_past 108 (codes "ate") n rest small refl,
      not_past 110 (codes "o name") n rest small refl,
      not_past 101 (codes "xists") n rest small refl,
      not_past 98 (codes "ad handle") n rest small refl,
      not_past 112 (codes "ast end") n rest small refl,
      not_past 116 (codes "oo big") n rest small refl,
      not_past 116 (codes "oo much") n rest small refl,
      not_past 98 (codes "ad word") n rest small refl,
    ) refl

-- a reply is read again, before the line's end
pub reply_again : (reply : Reply) (rest : List ℕ) → IsReplyInRange reply → reply_at (reply_text reply ++ 10 ∷ rest) ≡ Some (reply, 10 ∷ rest)
unfolding reply_at plain_at refused_reply_at got_from fault_at made_from count_at undone_reply_at
reply_again (reply.Number n) rest within = not_words n (10 ∷ rest) within ∙ rw (number_again n (10 ∷ rest) within refl) refl
reply_again (reply.Got bytes) rest within = ap reply_at (quoted bytes (10 ∷ rest)) ∙ rw (literal_again bytes (10 ∷ rest) within) refl
reply_again (reply.Made h) rest within = ap reply_at (handle_is h (10 ∷ rest)) ∙ rw (bare_again h (10 ∷ rest) within refl) refl
reply_again (reply.MadePair h g) rest within =
    let apart : reply_text (reply.MadePair h g) ++ 10 ∷ rest ≡ handle_text h ++ (32 ∷ (handle_text g ++ 10 ∷ rest)) = simp append_assoc in
    ap reply_at (apart ∙ handle_is h (32 ∷ (handle_text g ++ 10 ∷ rest)))
    ∙ rw (bare_again h (32 ∷ (handle_text g ++ 10 ∷ rest)) within.0 refl, handle_again g (10 ∷ rest) within.1 refl) refl
reply_again reply.Done rest within = refl
reply_again reply.End rest within = refl
reply_again reply.Empty rest within = refl
reply_again reply.NoName rest within = refl
reply_again reply.Exists rest within = refl
reply_again reply.BadHandle rest within = refl
reply_again reply.PastEnd rest within = refl
reply_again reply.TooBig rest within = refl
reply_again reply.TooMuch rest within = refl
reply_again reply.BadWord rest within = refl
reply_again (reply.Fault n) rest within = rw (small_again n (10 ∷ rest) within refl) refl
reply_again reply.Late rest within = refl
reply_again (reply.Undone faults) rest within = rw (small_again faults (10 ∷ rest) within refl) refl

-- ---- ends of late calls
pub late_end_again : (end : LateEnd) (rest : List ℕ) → IsLateEndInRange end → late_end_at (late_end_text end ++ 10 ∷ rest) ≡ Some (end, 10 ∷ rest)
unfolding late_end_at full_at late_fault_at no_memory_end_at
late_end_again late_end.Done rest within = refl
late_end_again (late_end.Full n) rest within = rw (small_again n (10 ∷ rest) within refl) refl
late_end_again late_end.Shut rest within = refl
late_end_again late_end.NoName rest within = refl
late_end_again late_end.NoScript rest within = refl
late_end_again (late_end.Fault n) rest within = rw (small_again n (10 ∷ rest) within refl) refl
late_end_again (late_end.NoMemory n) rest within = rw (small_again n (10 ∷ rest) within refl) refl
