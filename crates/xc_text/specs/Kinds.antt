-- The kinds of host calls, as a `fault` line spells them.
use Rattle.std.specs.Prelude.{ℕ, List, [], ◌∷◌, codes, ok_or, Result, Err}
use Rattle.xc_data.specs.declared.script.HostCallKind.{HostCallKind}
use Rattle.xc_data.specs.declared.script.HostCallKind.TheVariants as host_call
use Rattle.xc_tokens.specs.declared.why.Why.{Why}
use Rattle.xc_tokens.specs.declared.why.Why.TheVariants.{BadForm}
use Rattle.xc_tokens.specs.ByWord.{Entry, by_word}
use Rattle.xc_tokens.specs.Tokens.{Lexeme, Word, Literal}

-- the words of all kinds
unfoldable pub spellings : List (Entry HostCallKind)
spellings =
    (codes "lookup", host_call.Lookup)
    ∷ (codes "create", host_call.Create)
    ∷ (codes "len", host_call.Len)
    ∷ (codes "read_at", host_call.ReadAt)
    ∷ (codes "write_at", host_call.WriteAt)
    ∷ (codes "append", host_call.Append)
    ∷ (codes "rename", host_call.Rename)
    ∷ (codes "unlink", host_call.Unlink)
    ∷ (codes "sync", host_call.Sync)
    ∷ (codes "new_pipe", host_call.NewPipe)
    ∷ (codes "pipe_state", host_call.PipeState)
    ∷ (codes "take", host_call.Take)
    ∷ (codes "put", host_call.Put)
    ∷ (codes "new_pair", host_call.NewPair)
    ∷ (codes "pair_state", host_call.PairState)
    ∷ (codes "recv", host_call.Recv)
    ∷ (codes "send", host_call.Send)
    ∷ (codes "shut", host_call.Shut)
    ∷ (codes "restore", host_call.Restore)
    ∷ (codes "cut", host_call.Cut)
    ∷ (codes "uncreate", host_call.Uncreate)
    ∷ (codes "name_back", host_call.NameBack)
    ∷ (codes "drop_pipe", host_call.DropPipe)
    ∷ (codes "drop_pair", host_call.DropPair)
    ∷ (codes "any", host_call.Any)
    ∷ []

-- the kind that a word spells; no other word may stand there
abbrev pub kind_in : List ℕ → Result HostCallKind Why
kind_in word = ok_or (by_word spellings word) BadForm

-- what stands in the place of a kind
abbrev pub kind : Lexeme → Result HostCallKind Why
kind (Word word) = kind_in word
kind (Literal meant times) = Err BadForm
