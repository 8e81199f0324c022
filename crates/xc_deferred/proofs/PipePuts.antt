-- Puts that follow each other, and what a write to a pipe makes of them.
use Rattle.std.proofs.Common.{◌≡◌, ℕ, ◌+◌, ◌-◌, ◌<◌, ◌≤◌, true, is_some, List, [], ◌∷◌, ◌++◌, length, take, drop}
use Rattle.std.proofs.Common.{replicate, refl, ap, sym, ◌∙◌, subst, length-append}
use Rattle.std.proofs.lemmas.List.{take_rest}
use Rattle.std.specs.Prelude.{unwrap_or}
use Rattle.xc_data.specs.declared.call.LateCall.TheVariants.{WritePipe}
use Rattle.xc_data.specs.declared.call.LateEnd.{LateEnd}
use Rattle.xc_data.specs.declared.call.LateEnd.TheVariants as end
use Rattle.xc_data.specs.declared.object.Num.{Num}
use Rattle.xc_data.specs.declared.script.HostCallKind.TheVariants.{PipeState, Put}
use Rattle.xc_maps.proofs.Laws.{get-insert_same, num_total, num_exact}
use Rattle.xc_world.specs.World.{Pipe, empty_pipe}
use Rattle.xc_host.specs.Contents.{Contents}
use Rattle.xc_host.specs.Model.{HostModel, IsUsed}
use Rattle.xc_host.specs.Pipes.{has_pipe, pipe_in, put_into, put_front}
use Rattle.xc_host.specs.Uses.{Uses, PutsFor, LatesFor}
use Rattle.xc_host.proofs.Laws.{used_then, front_put, keeps_front}
use Rattle.xc_data.specs.Step.{Step}
use Rattle.xc_host.specs.Kept.{KeepsData}
use Rattle.xc_deferred.specs.Puts.{PutsOnly, Writes}

-- a put after a front that was put makes a longer front
pub put_more : (was c next : Contents) (pipe : Num) (done more : ℕ) (bytes : List ℕ) → done + more ≤ length bytes → 0 < more
    → c ≡ put_front was pipe (take done bytes) → next ≡ put_into c pipe (take more (take (length bytes - done) (drop done bytes)))
    → next ≡ put_front was pipe (take (done + more) bytes)
put_more was c next pipe done more bytes within some told did =
    did ∙ ap (λ d. put_into d pipe (take more (take (length bytes - done) (drop done bytes)))) told
    ∙ ap (λ xs. put_into (put_front was pipe (take done bytes)) pipe (take more xs)) (take_rest bytes done)
    ∙ front_put was pipe done more bytes some within

-- the pipe after a put
pub record IsBehindPut (c next : Contents) (pipe : Num) (n : ℕ) : Type 0 where
  pub there : has_pipe next pipe ≡ true
  pub mark : (pipe_in next pipe).shut ≡ (pipe_in c pipe).shut
  pub size : length (pipe_in next pipe).held ≡ length (pipe_in c pipe).held + n

-- is there with its mark, and has so many bytes more
pub put_keeps : (c next : Contents) (pipe : Num) (xs : List ℕ) → next ≡ put_into c pipe xs → IsBehindPut c next pipe (length xs)
put_keeps c next pipe xs did =
    let p = pipe_in c pipe in
    let q : Pipe = record p { held = p.held ++ xs } in
    let now : pipe_in next pipe ≡ q = ap (λ d. pipe_in d pipe) did ∙ ap (λ o. unwrap_or o empty_pipe) (get-insert_same num_total num_exact c.pipes pipe q) in
    record {
      there = ap (λ d. has_pipe d pipe) did ∙ ap is_some (get-insert_same num_total num_exact c.pipes pipe q);
      mark = ap (λ (r : Pipe). r.shut) now;
      size = ap (λ (r : Pipe). length r.held) now ∙ length-append p.held xs;
    }

-- ---- how often a write puts
module _ {H : Type 0} (model : HostModel H) where
  -- a write is a look at the pipe, and then its puts
  pub write_uses : (pipe : Num) (bytes : List ℕ) (e : LateEnd) (a b c : H) → IsUsed model (PipeState ∷ []) (record { old = a; new = b })
      → Uses model (record { old = b; new = c }) (PutsOnly (length bytes) e)
      → Uses model (record { old = a; new = c }) (LatesFor (WritePipe pipe bytes) e)
  write_uses pipe bytes e a b c looked puts =
      let (count, are, is) = puts.named in
      record {
        made = PipeState ∷ replicate count Put;
        named = (count, are, refl);
        used = used_then model (PipeState ∷ []) (replicate count Put) a b c looked
            (subst (λ made. IsUsed model made (record { old = b; new = c })) is puts.used);
      }

  -- or the look alone
  pub look_uses : (pipe : Num) (bytes : List ℕ) (e : LateEnd) (a b : H) → PutsFor (length bytes) e 0
      → IsUsed model (PipeState ∷ []) (record { old = a; new = b })
      → Uses model (record { old = a; new = b }) (LatesFor (WritePipe pipe bytes) e)
  look_uses pipe bytes e a b none looked = record { made = PipeState ∷ []; named = (0, none, refl); used = looked }

-- what a write left keeps each pipe and each pair
pub keeps_written : (c : Step Contents) (pipe : Num) (bytes : List ℕ) (room : ℕ) (e : LateEnd) → Writes c pipe bytes room e → KeepsData c.old c.new
keeps_written c pipe bytes room end.Done did = subst (KeepsData c.old) (sym did.1) (keeps_front c.old pipe bytes)
keeps_written c pipe bytes room (end.Full n) did = subst (KeepsData c.old) (sym did.2) (keeps_front c.old pipe (take n bytes))
keeps_written c pipe bytes room (end.Fault n) did = subst (KeepsData c.old) (sym did.1) (keeps_front c.old pipe (take n bytes))
keeps_written c pipe bytes room (end.NoMemory n) did = subst (KeepsData c.old) (sym did.1) (keeps_front c.old pipe (take n bytes))
keeps_written c pipe bytes room end.Shut did = absurd did
keeps_written c pipe bytes room end.NoName did = absurd did
keeps_written c pipe bytes room end.NoScript did = absurd did
