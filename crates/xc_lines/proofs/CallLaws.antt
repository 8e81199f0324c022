-- Calls that were printed are read again.
use Rattle.std.proofs.Common.{◌≡◌, ℕ, ◌^◌, ◌<◌, List, ◌∷◌, ◌++◌, Option, Some, None, refl, ap, ◌∙◌, append_assoc}
use Rattle.std.specs.Prelude.{codes}
use Rattle.std.specs.List.{prefix_len}
use Rattle.std.specs.Fmt.{decimal}
use Rattle.xc_data.specs.Spelling.{is_name_byte}
use Rattle.xc_data.specs.declared.call.Call.{Call}
use Rattle.xc_data.specs.declared.call.Call.TheVariants.{Load, Store, XOpen, XCreate, XRead, XWriteOvr, XWriteSeq, XSeek}
use Rattle.xc_data.specs.declared.call.Call.TheVariants.{XLen, XRename, XClose, XPipe, XReadPipe, XPair, XRecvmsg}
use Rattle.xc_data.specs.declared.call.Call.TheVariants.{XUnlink, XSync, XWritePipe, XShutdown, XSendmsg, XThreadCreate}
use Rattle.xc_data.specs.declared.call.Call.TheVariants.{Save, Keep, Back}
use Rattle.xc_print.specs.Bytes.{bytes_text}
use Rattle.xc_print.specs.Calls.{slot_text, call_text}
use Rattle.xc_print.specs.Objects.{handle_text}
use Rattle.xc_tokens.specs.Numbers.{is_digit}
use Rattle.xc_lines.specs.Ranges.{AreBytes, IsName, IsIdent, IsCallInRange, IsSlot}
use Rattle.xc_lines.specs.Calls.{load_at, store_at, open_call_at, create_at, read_call_at, overwrite_call_at, append_call_at, seek_call_at, len_call_at}
use Rattle.xc_lines.specs.Calls.{rename_at, close_at}
use Rattle.xc_lines.specs.Calls.{read_pipe_call_at, receive_call_at, unlink_at, sync_at, write_pipe_at, shut_down_at, send_at, start_at, call_at}
use Rattle.xc_lines.specs.Calls.{file_call_at, pipe_call_at, late_call_at, block_call_at}
use Rattle.xc_lines.specs.Calls.{two_numbers_at, two_names_at, handle_number_at, handle_bytes_at, slot_at, name_slot_at, ident_slot_at}
use Rattle.xc_lines.specs.Calls.{handle_slot_at, handle_bytes_slot_at}
use Rattle.xc_lines.proofs.Spelled.{number_again, name_again, ident_again}
use Rattle.xc_lines.proofs.QuotedLaws.{bytes_again}
use Rattle.xc_lines.proofs.Fields.{handle_again}

-- what stands behind a call: the equals sign
abbrev pub then_is : List ℕ → List ℕ
then_is rest = codes " = " ++ rest

slot_again : (slot : Option (List ℕ)) (rest : List ℕ) → IsSlot slot → slot_at (slot_text slot ++ then_is rest) ≡ Some (slot, then_is rest)
unfolding slot_at
slot_again None rest within = refl
slot_again (Some slot) rest within = rw (ident_again slot (then_is rest) within refl) refl

-- a name ends before a slot, and before the equals sign; so does a number
names_stop : (slot : Option (List ℕ)) (rest : List ℕ) → prefix_len is_name_byte (slot_text slot ++ then_is rest) ≡ 0
names_stop None rest = refl
names_stop (Some slot) rest = refl

digits_stop : (slot : Option (List ℕ)) (rest : List ℕ) → prefix_len is_digit (slot_text slot ++ then_is rest) ≡ 0
digits_stop None rest = refl
digits_stop (Some slot) rest = refl

-- ---- pieces
two : (word a b rest : List ℕ) → word ++ a ++ codes " " ++ b ++ rest ≡ word ++ (a ++ 32 ∷ (b ++ rest))
two word a b rest =
    append_assoc (word ++ a ++ codes " ") b rest ∙ append_assoc (word ++ a) (codes " ") (b ++ rest) ∙ append_assoc word a (32 ∷ (b ++ rest))

three : (word a b c rest : List ℕ) → word ++ a ++ codes " " ++ b ++ c ++ rest ≡ word ++ (a ++ 32 ∷ (b ++ (c ++ rest)))
three word a b c rest = append_assoc (word ++ a ++ codes " " ++ b) c rest ∙ two word a b (c ++ rest)

with_slot : (word a c rest : List ℕ) → word ++ a ++ c ++ rest ≡ word ++ (a ++ (c ++ rest))
with_slot word a c rest = append_assoc (word ++ a) c rest ∙ append_assoc word a (c ++ rest)

-- ---- the values of calls
two_numbers_again : (a b : ℕ) (rest : List ℕ) → a < 2 ^ 64 → b < 2 ^ 64
    → two_numbers_at (decimal a ++ 32 ∷ (decimal b ++ then_is rest)) ≡ Some ((a, b), then_is rest)
unfolding two_numbers_at
two_numbers_again a b rest a_is b_is = rw (number_again a (32 ∷ (decimal b ++ then_is rest)) a_is refl, number_again b (then_is rest) b_is refl) refl

two_names_again : (a b rest : List ℕ) → IsName a → IsName b → two_names_at (a ++ 32 ∷ (b ++ then_is rest)) ≡ Some ((a, b), then_is rest)
unfolding two_names_at
two_names_again a b rest a_is b_is = rw (name_again a (32 ∷ (b ++ then_is rest)) a_is refl, name_again b (then_is rest) b_is refl) refl

handle_number_again : (h n : ℕ) (rest : List ℕ) → h < 2 ^ 16 → n < 2 ^ 64
    → handle_number_at (handle_text h ++ 32 ∷ (decimal n ++ then_is rest)) ≡ Some ((h, n), then_is rest)
unfolding handle_number_at
handle_number_again h n rest h_is n_is = rw (handle_again h (32 ∷ (decimal n ++ then_is rest)) h_is refl, number_again n (then_is rest) n_is refl) refl

handle_bytes_again : (h : ℕ) (bytes rest : List ℕ) → h < 2 ^ 16 → AreBytes bytes
    → handle_bytes_at (handle_text h ++ 32 ∷ (bytes_text bytes ++ rest)) ≡ Some ((h, bytes), rest)
unfolding handle_bytes_at
handle_bytes_again h bytes rest h_is all = rw (handle_again h (32 ∷ (bytes_text bytes ++ rest)) h_is refl, bytes_again bytes rest all) refl

name_slot_again : (name : List ℕ) (slot : Option (List ℕ)) (rest : List ℕ) → IsName name → IsSlot slot
    → name_slot_at (name ++ (slot_text slot ++ then_is rest)) ≡ Some ((name, slot), then_is rest)
unfolding name_slot_at
name_slot_again name slot rest name_is slot_is =
    rw (name_again name (slot_text slot ++ then_is rest) name_is (names_stop slot rest), slot_again slot rest slot_is) refl

ident_slot_again : (ident : List ℕ) (slot : Option (List ℕ)) (rest : List ℕ) → IsIdent ident → IsSlot slot
    → ident_slot_at (ident ++ (slot_text slot ++ then_is rest)) ≡ Some ((ident, slot), then_is rest)
unfolding ident_slot_at
ident_slot_again ident slot rest ident_is slot_is =
    rw (ident_again ident (slot_text slot ++ then_is rest) ident_is (names_stop slot rest), slot_again slot rest slot_is) refl

handle_slot_again : (h : ℕ) (slot : Option (List ℕ)) (rest : List ℕ) → h < 2 ^ 16 → IsSlot slot
    → handle_slot_at (handle_text h ++ (slot_text slot ++ then_is rest)) ≡ Some ((h, slot), then_is rest)
unfolding handle_slot_at
handle_slot_again h slot rest h_is slot_is =
    rw (handle_again h (slot_text slot ++ then_is rest) h_is (digits_stop slot rest), slot_again slot rest slot_is) refl

handle_bytes_slot_again : (h : ℕ) (bytes : List ℕ) (slot : Option (List ℕ)) (rest : List ℕ) → h < 2 ^ 16 → AreBytes bytes → IsSlot slot
    → handle_bytes_slot_at (handle_text h ++ 32 ∷ (bytes_text bytes ++ (slot_text slot ++ then_is rest))) ≡ Some ((h, bytes, slot), then_is rest)
unfolding handle_bytes_slot_at
handle_bytes_slot_again h bytes slot rest h_is all slot_is =
    rw (handle_bytes_again h bytes (slot_text slot ++ then_is rest) h_is all, slot_again slot rest slot_is) refl

-- ---- each call
pub call_again : (call : Call) (rest : List ℕ) → IsCallInRange call → call_at (call_text call ++ then_is rest) ≡ Some (call, then_is rest)
unfolding load_at store_at open_call_at create_at read_call_at overwrite_call_at append_call_at seek_call_at len_call_at rename_at close_at read_pipe_call_at
    receive_call_at
    unlink_at sync_at write_pipe_at shut_down_at send_at start_at call_at file_call_at pipe_call_at late_call_at block_call_at
call_again (Load at) rest within = rw (number_again at (then_is rest) within refl) refl
call_again (Store at value) rest within =
    ap call_at (two (codes "store ") (decimal at) (decimal value) (then_is rest)) ∙ rw (two_numbers_again at value rest within.0 within.1) refl
call_again (XOpen name) rest within = rw (name_again name (then_is rest) within refl) refl
call_again (XCreate name) rest within = rw (name_again name (then_is rest) within refl) refl
call_again (XRead h n) rest within =
    ap call_at (two (codes "x_read ") (handle_text h) (decimal n) (then_is rest)) ∙ rw (handle_number_again h n rest within.0 within.1) refl
call_again (XWriteOvr h bytes) rest within =
    ap call_at (two (codes "x_write_ovr ") (handle_text h) (bytes_text bytes) (then_is rest))
    ∙ rw (handle_bytes_again h bytes (then_is rest) within.0 within.1) refl
call_again (XWriteSeq h bytes) rest within =
    ap call_at (two (codes "x_write_seq ") (handle_text h) (bytes_text bytes) (then_is rest))
    ∙ rw (handle_bytes_again h bytes (then_is rest) within.0 within.1) refl
call_again (XSeek h to) rest within =
    ap call_at (two (codes "x_seek ") (handle_text h) (decimal to) (then_is rest)) ∙ rw (handle_number_again h to rest within.0 within.1) refl
call_again (XLen h) rest within = rw (handle_again h (then_is rest) within refl) refl
call_again (XRename from to) rest within =
    ap call_at (two (codes "x_rename ") from to (then_is rest)) ∙ rw (two_names_again from to rest within.0 within.1) refl
call_again (XClose h) rest within = rw (handle_again h (then_is rest) within refl) refl
call_again XPipe rest within = refl
call_again (XReadPipe h n) rest within =
    ap call_at (two (codes "x_read_pipe ") (handle_text h) (decimal n) (then_is rest)) ∙ rw (handle_number_again h n rest within.0 within.1) refl
call_again XPair rest within = refl
call_again (XRecvmsg h) rest within = rw (handle_again h (then_is rest) within refl) refl
call_again (XUnlink name slot) rest within =
    ap call_at (with_slot (codes "x_unlink ") name (slot_text slot) (then_is rest)) ∙ rw (name_slot_again name slot rest within.0 within.1) refl
call_again (XSync h slot) rest within =
    ap call_at (with_slot (codes "x_sync ") (handle_text h) (slot_text slot) (then_is rest)) ∙ rw (handle_slot_again h slot rest within.0 within.1) refl
call_again (XWritePipe h bytes slot) rest within =
    ap call_at (three (codes "x_write_pipe ") (handle_text h) (bytes_text bytes) (slot_text slot) (then_is rest))
    ∙ rw (handle_bytes_slot_again h bytes slot rest within.0 within.1 within.2) refl
call_again (XShutdown h slot) rest within =
    ap call_at (with_slot (codes "x_shutdown ") (handle_text h) (slot_text slot) (then_is rest)) ∙ rw (handle_slot_again h slot rest within.0 within.1) refl
call_again (XSendmsg h bytes slot) rest within =
    ap call_at (three (codes "x_sendmsg ") (handle_text h) (bytes_text bytes) (slot_text slot) (then_is rest))
    ∙ rw (handle_bytes_slot_again h bytes slot rest within.0 within.1 within.2) refl
call_again (XThreadCreate body slot) rest within =
    ap call_at (with_slot (codes "x_thread_create ") body (slot_text slot) (then_is rest)) ∙ rw (ident_slot_again body slot rest within.0 within.1) refl
call_again Save rest within = refl
call_again Keep rest within = refl
call_again Back rest within = refl
