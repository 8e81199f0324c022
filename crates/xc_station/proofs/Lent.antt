-- What is kept, in front of what the host tells.
use Rattle.std.proofs.Common.{◌≡◌, false, List, [], ◌∷◌, ap, sym, ◌∙◌, subst, refl, length, IsTrue}
use Rattle.xc_data.specs.declared.call.Call.{Call}
use Rattle.xc_data.specs.declared.call.Answer.{Answer}
use Rattle.xc_data.specs.declared.call.Reply.{Reply}
use Rattle.xc_data.specs.declared.entry.KeptItem.{KeptItem}
use Rattle.xc_data.specs.declared.entry.KeptItem.TheVariants.{Bytes, Message}
use Rattle.xc_data.specs.declared.undo.Undo.{Undo}
use Rattle.xc_data.specs.declared.undo.UndoEnd.{UndoEnd}
use Rattle.xc_data.specs.Remaining.{objects_of}
use Rattle.xc_calls.specs.Calls.{ActsAsPlain, AreRecorded, DidPart, CallView}
use Rattle.xc_host.specs.Contents.{Contents, contents_of, with_contents, world_of}
use Rattle.xc_host.specs.Kept.{with_kept}
use Rattle.xc_world.specs.Act.{act}
use Rattle.xc_world.specs.Act.Step.{Stepped, step_to}
use Rattle.xc_world.specs.Beside.{AreElsewhere, is_on_data, spoken_of, with_given}
use Rattle.xc_world.specs.Effects.{undone_to}
use Rattle.xc_world.specs.Fits.{answer_of, fits}
use Rattle.xc_world.specs.Run.{gives, given_back}
use Rattle.xc_world.specs.Trail.{recorded}
use Rattle.xc_world.specs.World.{World}
use Rattle.xc_world.proofs.Laws.{act_beside, data_elsewhere, fits_beside, recorded_beside, undone_beside}

-- ---- contents with kept data in front
gives_in : (w x : World) (t : KeptItem) → with_contents w (contents_of (gives x t)) ≡ gives (with_contents w (contents_of x)) t
gives_in w x (Bytes num bytes) = refl
gives_in w x (Message num side bytes) = refl

-- a world with such contents is one in which it was given back
pub kept_world : (w : World) (c : Contents) (items : List KeptItem) → with_contents w (with_kept c items) ≡ given_back (with_contents w c) items
kept_world w c [] = refl
kept_world w c (t ∷ ts) = gives_in w (given_back (world_of c) ts) t ∙ ap (λ x. gives x t) (kept_world w c ts)

-- so the contents of a world in which it was given back are those of that world with it in front
pub kept_of : (w : World) (items : List KeptItem) → contents_of (given_back w items) ≡ with_kept (contents_of w) items
kept_of w items = ap contents_of (sym (kept_world w (contents_of w) items))

-- and the world of such contents
pub world_kept : (c : Contents) (items : List KeptItem) → world_of (with_kept c items) ≡ given_back (world_of c) items
world_kept c items = kept_world (world_of c) c items

-- the files are the host's
pub kept_files : (c : Contents) (items : List KeptItem) → (with_kept c items).files ≡ c.files
kept_files c [] = refl
kept_files c (Bytes num bytes ∷ ts) = kept_files c ts
kept_files c (Message num side bytes ∷ ts) = kept_files c ts

-- and so are the names
pub kept_names : (c : Contents) (items : List KeptItem) → (with_kept c items).names ≡ c.names
kept_names c [] = refl
kept_names c (Bytes num bytes ∷ ts) = kept_names c ts
kept_names c (Message num side bytes ∷ ts) = kept_names c ts

-- what a transaction took is in front of what was kept before
pub kept_again : (c : Contents) (kept behind taken : List KeptItem)
    → ((w : World) → given_back w behind ≡ given_back (given_back w kept) taken) → with_kept c behind ≡ with_kept (with_kept c kept) taken
kept_again c kept behind taken given =
    ap contents_of (given (world_of c) ∙ ap (λ w. given_back w taken) (sym (world_kept c kept)))

-- ---- a call that is on no pipe and no pair
-- a moment with what is kept in front of its contents
abbrev pub call_view_with : CallView → List KeptItem → CallView
call_view_with m items = record m { contents = with_kept m.contents items }

module _ (call : Call) (was : CallView) (items : List KeptItem) (off : is_on_data call ≡ false) where
  elsewhere : (w : World) → AreElsewhere (spoken_of call was.me was.number (length w.words)) items
  elsewhere w = data_elsewhere was.me (length w.words) was.number call items off

  -- it goes on beside what is kept
  act_kept : (w : World) (answer : Answer) → act (with_contents w (with_kept was.contents items)) was.me was.number call answer
      ≡ with_given (act (with_contents w was.contents) was.me was.number call answer) items
  act_kept w answer =
      ap (λ x. act x was.me was.number call answer) (kept_world w was.contents items)
      ∙ act_beside (with_contents w was.contents) items was.me was.number call (elsewhere (with_contents w was.contents)) answer

  fits_kept : (w : World) (answer : Answer) → fits (with_contents w was.contents) was.me was.number call answer
      ≡ fits (with_contents w (with_kept was.contents items)) was.me was.number call answer
  fits_kept w answer =
      fits_beside (with_contents w was.contents) items was.me was.number call (elsewhere (with_contents w was.contents)) answer
      ∙ ap (λ x. fits x was.me was.number call answer) (sym (kept_world w was.contents items))

  recorded_kept : (w : World) (answer : Answer) → let reply = (act (with_contents w was.contents) was.me was.number call answer).reply in
      recorded (with_contents w was.contents) was.me was.number call reply
      ≡ recorded (with_contents w (with_kept was.contents items)) was.me was.number call reply
  recorded_kept w answer =
      let reply = (act (with_contents w was.contents) was.me was.number call answer).reply in
      recorded_beside (with_contents w was.contents) items was.me was.number call (elsewhere (with_contents w was.contents)) answer
      ∙ ap (λ x. recorded x was.me was.number call reply) (sym (kept_world w was.contents items))

  -- so what it does at the host it does there
  pub acts_kept : (is : CallView) (reply : Reply) → ActsAsPlain call was is reply → ActsAsPlain call (call_view_with was items) (call_view_with is items) reply
  acts_kept is reply acts =
      record {
        step = λ w.
            act_kept w (answer_of reply) ∙ ap (λ s. with_given s items) (acts.step w)
            ∙ ap (λ x. step_to x is.me reply) (sym (kept_world w is.contents items));
        fits = λ w. subst (λ b. IsTrue b) (fits_kept w (answer_of reply)) (acts.fits w);
      }

  -- and leaves the same records
  pub recorded_there : (is : CallView) (made : List Undo) (reply : Reply) → ActsAsPlain call was is reply → AreRecorded call was made reply
      → AreRecorded call (call_view_with was items) made reply
  recorded_there is made reply acts are w =
      let gives : (act (with_contents w was.contents) was.me was.number call (answer_of reply)).reply ≡ reply = ap (λ (s : Stepped). s.reply) (acts.step w) in
      are w
      ∙ subst (λ r. recorded (with_contents w was.contents) was.me was.number call r
      ≡ recorded (with_contents w (with_kept was.contents items)) was.me was.number call r) gives (recorded_kept w (answer_of reply))

  -- the same of a part that it did
  pub part_kept : (is : Contents) (made : List Undo) → DidPart call was is made → DidPart call (call_view_with was items) (with_kept is items) made
  part_kept is made did =
      record {
        answer = did.answer;
        fits = λ w. subst (λ b. IsTrue b) (fits_kept w did.answer) (did.fits w);
        world = λ w.
            ap (λ (s : Stepped). s.world) (act_kept w did.answer) ∙ ap (λ x. given_back x items) (did.world w) ∙ sym (kept_world w is items);
        records = λ w.
            did.records w ∙ recorded_kept w did.answer
            ∙ ap (λ (s : Stepped). recorded (with_contents w (with_kept was.contents items)) was.me was.number call s.reply) (sym (act_kept w did.answer));
      }

-- ---- a compensation of what none of the kept data is of
pub undone_kept : (c : Contents) (items : List KeptItem) (u : Undo) (end : UndoEnd) → AreElsewhere (objects_of u) items
    → with_kept (contents_of (undone_to (world_of c) u end)) items ≡ contents_of (undone_to (world_of (with_kept c items)) u end)
undone_kept c items u end elsewhere =
    sym (kept_of (undone_to (world_of c) u end) items)
    ∙ ap contents_of (sym (undone_beside (world_of c) items u end elsewhere) ∙ ap (λ w. undone_to w u end) (sym (world_kept c items)))
