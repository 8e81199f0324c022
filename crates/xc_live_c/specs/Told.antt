-- What C is told of a begin, of a call and of an end, and what these do to the desk.
use Rattle.std.specs.Prelude.{◌≡◌, ◌⊎◌, ℕ, ℤ, pos, Bool, true, false, List, [], slice_get, slice_set, unwrap_or, Option, is_some}
use Rattle.std.specs.declared.option.Option.TheVariants.{None, Some}
use Rattle.xc_data.specs.Step.{Step}
use Rattle.xc_data.specs.declared.call.Call.{Call}
use Rattle.xc_data.specs.declared.call.Reply.{Reply}
use Rattle.xc_data.specs.declared.call.Reply.TheVariants as reply
use Rattle.xc_memhost.specs.State.{MemState, mem_host_model}
use Rattle.xc_script.specs.declared.ask.Ask.{Ask}
use Rattle.xc_station.specs.HandedTold.{last_reply_at}
use Rattle.xc_station.specs.Jobs.{job_views}
use Rattle.xc_station.specs.Stations.{StationView, live_at}
use Rattle.xc_live.specs.Called.{IsBegunSo, IsCalledSo}
use Rattle.xc_live.specs.Ended.{IsEndedSo}
use Rattle.xc_live.specs.Told.{tx_at}
use Rattle.xc_live.specs.declared.answers.Began.{Began}
use Rattle.xc_live.specs.declared.answers.Began.TheVariants as began
use Rattle.xc_live.specs.declared.answers.Called.{Called}
use Rattle.xc_live.specs.declared.answers.Called.TheVariants as called
use Rattle.xc_live.specs.declared.answers.Ended.{Ended}
use Rattle.xc_live_c.specs.declared.clients.Clients.{Clients}
use Rattle.xc_live_c.specs.Codes.{began_code, called_code, ended_code, kind_number, other_of, reply_code, value_of}

-- what C is told of a call: its code, and of its reply the kind, and the number, the handle or the count
pub record Telling : Type 0 where
  pub code : ℤ
  pub kind : ℕ
  pub value : ℕ

-- the desk, before and after
abbrev pub desks : Clients → Clients → Step (StationView MemState)
desks old new = record { old = old.desk; new = new.desk }

-- whether the client was told that it has begun, and not yet that its transaction has ended
abbrev pub has_begun : List Bool → ℕ → Bool
has_begun begun client = unwrap_or (slice_get begun client) false

-- the same as before, but for this client: whether it goes on
abbrev pub with_begun : List Bool → ℕ → Bool → List Bool
with_begun begun client goes_on = slice_set begun client goes_on

-- nothing that is seen changes; a name may have got its place
pub record KeepsDesk (old new : Clients) : Type 0 where
  pub desk : new.desk ≡ old.desk
  pub begun : new.begun.items ≡ old.begun.items
  pub counted : new.counted ≡ old.counted

-- where something bars a call, this code says so, and nothing changes; else it does this
abbrev pub Unless : Option ℤ → Clients → Clients → ℤ → Type 0 → Type 0
Unless None old new code does = does
Unless (Some why) old new code does = (code ≡ why) × KeepsDesk old new

-- by what the handle held and holds: of one that is closed the code says so, and it stays closed; else this is done, and it stays open
abbrev pub of_open : (Clients → Clients → ℤ → Type 0) → Option Clients → Option Clients → ℤ → Type 0
of_open does None new code = (code ≡ pos 8) × (new ≡ None)
of_open does (Some old) None code = ⊥
of_open does (Some old) (Some new) code = does old new code

-- so it is of a handle
abbrev pub OfOpen : (Clients → Clients → ℤ → Type 0) → Step (Option Clients) → ℤ → Type 0
OfOpen does handle code = of_open does handle.old handle.new code

-- ---- begins
-- whether it has begun
abbrev pub is_went : Began → Bool
is_went began.Went = true
is_went (began.Waits holder) = false
is_went (began.Ended end) = false
is_went began.NoMemory = false
is_went began.Full = false

-- what the desk's begin does, by its answer
pub record HasBegunSo (client : ℕ) (old new : Clients) (code : ℤ) : Type 0 where
  pub answer : Began
  pub turn : IsBegunSo mem_host_model client (desks old new) answer
  pub told : code ≡ began_code answer
  pub begun : new.begun.items ≡ with_begun old.begun.items client (is_went answer)
  pub counted : new.counted ≡ old.counted

-- what bars a begin, by whether the client has a place, lives, and has a transaction
abbrev pub begin_bar : Bool → Bool → Bool → Option ℤ
begin_bar false lives active = Some (pos 4)
begin_bar true false active = Some (pos 4)
begin_bar true true true = Some (pos 6)
begin_bar true true false = None

-- the same of a client
abbrev pub begin_bar_at : ℕ → Clients → Option ℤ
begin_bar_at client c =
    begin_bar (is_some (slice_get c.begun.items client)) (live_at c.desk.jobs client) (is_some (tx_at (job_views c.desk.jobs) client))

-- a begin of a client
abbrev pub IsBegunInC : ℕ → Clients → Clients → ℤ → Type 0
IsBegunInC client old new code = Unless (begin_bar_at client old) old new code (HasBegunSo client old new code)

-- ---- calls
-- of a call that replied: its reply; of any other one: the code alone
abbrev pub telling_of : Called → Option Reply → Telling → Type 0
telling_of called.Replied None said = said.code ≡ pos 0
telling_of called.Replied (Some r) said = said ≡ record { code = reply_code r; kind = kind_number r; value = value_of r }
telling_of (called.Again why) r said = said.code ≡ called_code (called.Again why)
telling_of called.Refused r said = said.code ≡ called_code called.Refused
telling_of called.Gone r said = said.code ≡ called_code called.Gone

-- whether the transaction goes on
abbrev pub runs_on : Called → Bool
runs_on called.Replied = true
runs_on (called.Again why) = false
runs_on called.Refused = true
runs_on called.Gone = false

-- the desk makes the call
pub record HasCalledSo (client : ℕ) (c : Call) (old new : Clients) (said : Telling) : Type 0 where
  pub answer : Called
  pub called : IsCalledSo mem_host_model client c (desks old new) answer
  pub told : telling_of answer (last_reply_at (job_views new.desk.jobs) client) said
  pub begun : new.begun.items ≡ with_begun old.begun.items client (runs_on answer)
  pub counted : new.counted ≡ old.counted

-- what bars a call, by whether the client has begun
abbrev pub call_bar : Bool → Option ℤ
call_bar false = Some (pos 5)
call_bar true = None

-- a call of a client
abbrev pub IsCalledInC : ℕ → Call → Clients → Clients → Telling → Type 0
IsCalledInC client c old new said =
    Unless (call_bar (has_begun old.begun.items client)) old new said.code (HasCalledSo client c old new said)

-- a call of an open desk, or of a closed one, by what is said
abbrev pub IsSaid : ℕ → Call → Step (Option Clients) → Telling → Type 0
IsSaid client c handle said = OfOpen (λ old new code. IsCalledInC client c old new (record said { code = code })) handle said.code

-- why a name gets no place: there are too many, or there is no memory
abbrev pub IsNoPlace : ℤ → Type 0
IsNoPlace code = (code ≡ pos 11) ⊎ (code ≡ pos 14)

-- why a name of a client gets no place, by whether the client has begun, and whether the bytes are a name
abbrev pub IsNotPlaced : Bool → Bool → ℤ → Type 0
IsNotPlaced false named code = code ≡ pos 5
IsNotPlaced true false code = code ≡ pos 10
IsNotPlaced true true code = IsNoPlace code

-- what bars a call with a name, by whether the client has begun, and whether it is a name
abbrev pub name_bar : Bool → Bool → Option ℤ
name_bar false named = Some (pos 5)
name_bar true false = Some (pos 10)
name_bar true true = None

-- a call with a name, of one that may be made: it is, unless the name gets no place
abbrev pub IsNamedCall : ℕ → Call → Clients → Clients → Telling → Type 0
IsNamedCall client c old new said = (IsNoPlace said.code × KeepsDesk old new) ⊎ HasCalledSo client c old new said

-- nothing that is seen of a handle changes; a name may have got its place
abbrev pub KeepsHandle : Option Clients → Option Clients → Type 0
KeepsHandle None new = new ≡ None
KeepsHandle (Some old) None = ⊥
KeepsHandle (Some old) (Some new) = KeepsDesk old new

-- a client of an open desk has begun, and the bytes are a name
abbrev pub MayBeNamed : Bool → ℕ → Option Clients → Type 0
MayBeNamed named client None = ⊥
MayBeNamed named client (Some c) = (has_begun c.begun.items client ≡ true) × (named ≡ true)

-- why a name gets no place at a handle, by whether the bytes are a name
abbrev pub IsNotPlacedAt : Bool → ℕ → Option Clients → ℤ → Type 0
IsNotPlacedAt named client None code = code ≡ pos 8
IsNotPlacedAt named client (Some c) code = IsNotPlaced (has_begun c.begun.items client) named code

-- a call with bytes: there is no memory for them, and nothing changes, or it is made
abbrev pub IsSaidWith : ℕ → Call → Step (Option Clients) → Telling → Type 0
IsSaidWith client c handle said = ((said.code ≡ pos 14) × (handle.new ≡ handle.old)) ⊎ IsSaid client c handle said

-- a call whose bytes go out: there is too little room for them, and nothing changes, or it is made
abbrev pub IsSaidInto : Bool → ℕ → Call → Step (Option Clients) → Telling → Type 0
IsSaidInto false client c handle said = (said.code ≡ pos 13) × (handle.new ≡ handle.old)
IsSaidInto true client c handle said = IsSaid client c handle said

-- the bytes of a reply
abbrev pub got_in : Option Reply → List ℕ
got_in (Some (reply.Got bytes)) = bytes
-- no other reply has bytes, nor may one yet to come
got_in r = []

-- the reply to the last call of a client
abbrev pub reply_at : ℕ → Option Clients → Option Reply
reply_at client None = None
reply_at client (Some c) = last_reply_at (job_views c.desk.jobs) client

-- the bytes that it has
abbrev pub got_of : ℕ → Option Clients → List ℕ
got_of client handle = got_in (reply_at client handle)

-- the other side of the pair that it made
abbrev pub other_in : Option Reply → ℕ
other_in None = 0
other_in (Some r) = other_of r

-- so it is of a handle
abbrev pub other_at : ℕ → Option Clients → ℕ
other_at client handle = other_in (reply_at client handle)

-- a call with names, if they are names
abbrev pub IsSaidOf : Bool → ℕ → Call → Step (Option Clients) → Telling → Type 0
IsSaidOf named client c handle said =
    OfOpen (λ old new code. Unless (name_bar (has_begun old.begun.items client) named) old new code
    (IsNamedCall client c old new (record said { code = code }))) handle said.code

-- ---- ends
-- a commit or an abort of a client that has begun
pub record HasEndedSo (client : ℕ) (asked : Ask) (old new : Clients) (code : ℤ) : Type 0 where
  pub answer : Ended
  pub ended : IsEndedSo mem_host_model client asked (desks old new) answer
  pub told : code ≡ ended_code answer
  pub begun : new.begun.items ≡ with_begun old.begun.items client false
  pub counted : new.counted ≡ old.counted

-- a commit or an abort of a client
abbrev pub IsEndedInC : ℕ → Ask → Clients → Clients → ℤ → Type 0
IsEndedInC client asked old new code =
    Unless (call_bar (has_begun old.begun.items client)) old new code (HasEndedSo client asked old new code)
