-- The texts of a script of two jobs, of one with an inner block, and of one with a late call, computed.
use Rattle.std.proofs.Common.{◌≡◌, ℕ, suc, false, List, [], ◌∷◌, ◌++◌, refl, ap, ◌∙◌}
use Rattle.std.specs.Prelude.{codes}
use Rattle.std.specs.Fmt.{digits}
use Rattle.std.specs.declared.option.Option.TheVariants.{None}
use Rattle.std.specs.FinMap as map
use Rattle.xc_data.specs.Claims.{claim}
use Rattle.xc_data.specs.declared.call.Call.TheVariants as call
use Rattle.xc_data.specs.declared.call.LateEnd.TheVariants as late_end
use Rattle.xc_data.specs.declared.call.Reply.TheVariants as reply
use Rattle.xc_data.specs.declared.claim.Mode.TheVariants.{Exclusive}
use Rattle.xc_data.specs.declared.entry.Entry.{Entry}
use Rattle.xc_data.specs.declared.entry.Outcome.TheVariants.{Committed}
use Rattle.xc_data.specs.declared.object.Object.TheVariants as object
use Rattle.xc_print.specs.Text.{rendered}
use Rattle.xc_model.specs.Progress.{opening_progress, progress_of}
use Rattle.xc_text.specs.declared.script.Expression.TheVariants as expression
use Rattle.xc_text.specs.declared.script.Script.{Script}
use Rattle.xc_text.specs.Stated.{Statement}
use Rattle.xc_text.specs.declared.script.CallForm.TheVariants as form
use Rattle.xc_text.specs.declared.script.Statement.TheVariants as statement
use Rattle.xc_text.specs.declared.script.Term.TheVariants as term
use Rattle.xc_world.specs.Opening.{opening}
use Rattle.xc_serial.specs.Plain.{plain_from, plain_journal, plain_lines, plain_text}

abbrev loads : Statement
loads = statement.Call (form.Load (term.Number 0) None)

abbrev stores : ℕ → Statement
stores value = statement.Call (form.Store (term.Number 0) (expression.Term (term.Number value)))

-- a job of two transactions, of which the second one aborts itself, and a job of one
abbrev two_jobs : Script
two_jobs =
    record {
      outline =
          record {
            words = 100 ∷ 0 ∷ [];
            prologue = record { objects = []; faults = []; grain = None };
            bodies = [];
            jobs = codes "main" ∷ codes "next" ∷ [];
          };
      blocks =
          record {
            name = codes "main";
            transactions = (loads ∷ stores 105 ∷ []) ∷ (stores 7 ∷ statement.Abort ∷ []) ∷ [];
          }
          ∷ record { name = codes "next"; transactions = (loads ∷ []) ∷ [] }
          ∷ [];
      variables = [];
      slots = [];
      handles = [];
      clients = false;
    }

-- its text is the reference's
pub text_of_two_jobs :
    plain_text two_jobs
    ≡ codes "commit t1 job 1 rank 1 began 0\n"
    ++ codes "  load 0 = 100\n"
    ++ codes "  store 0 105 = done\n"
    ++ codes "  held word 0\n"
    ++ codes "abort t2 job 1 rank 2 began 1 asked\n"
    ++ codes "  store 0 7 = done\n"
    ++ codes "  held word 0\n"
    ++ codes "commit t3 job 2 rank 3 began 2\n"
    ++ codes "  load 0 = 105\n"
    ++ codes "  held word 0 shared\n"
    ++ codes "job 1 main done\n"
    ++ codes "job 2 next done\n"
    ++ codes "word 0 105\n"
    ++ codes "total 2 committed, 1 aborted, 0 faults, 0 remains\n"
unfolding digits
text_of_two_jobs = refl

-- a job of one transaction, which goes back in an inner block
abbrev inner_block : Script
inner_block =
    record {
      outline =
          record {
            words = 100 ∷ [];
            prologue = record { objects = []; faults = []; grain = None };
            bodies = [];
            jobs = codes "main" ∷ [];
          };
      blocks =
          record {
            name = codes "main";
            transactions =
                (stores 5 ∷ statement.Call form.Save ∷ stores 7 ∷ statement.Call form.Back ∷ stores 9 ∷ statement.Call form.Keep ∷ loads ∷ []) ∷ [];
          }
          ∷ [];
      variables = [];
      slots = [];
      handles = [];
      clients = false;
    }

-- its text: the store before the block stands, that of the block doesn't, and what is behind the back isn't asked
pub text_of_inner_block :
    plain_text inner_block
    ≡ codes "commit t1 job 1 rank 1 began 0\n"
    ++ codes "  store 0 5 = done\n"
    ++ codes "  save = done\n"
    ++ codes "  store 0 7 = done\n"
    ++ codes "  back = done faults 0\n"
    ++ codes "  load 0 = 5\n"
    ++ codes "  held word 0\n"
    ++ codes "job 1 main done\n"
    ++ codes "word 0 5\n"
    ++ codes "total 1 committed, 0 aborted, 0 faults, 0 remains\n"
unfolding digits
text_of_inner_block = refl

-- a file's name is to be taken away where no file is
abbrev unlinks : Script
unlinks =
    record {
      outline =
          record {
            words = [];
            prologue = record { objects = []; faults = []; grain = None };
            bodies = [];
            jobs = codes "main" ∷ [];
          };
      blocks = record { name = codes "main"; transactions = (statement.Call (form.XUnlink (codes "a") None) ∷ []) ∷ [] } ∷ [];
      variables = [];
      slots = [];
      handles = [];
      clients = false;
    }

no_name : map.get (opening unlinks.outline).names (codes "a") ≡ None
no_name = map.get-empty _ (codes "a")

-- its one entry: the late call finds no name
abbrev its_entry : Entry
its_entry =
    record {
      tx = 1;
      job = 1;
      rank = 1;
      began = 0;
      calls = call.XUnlink (codes "a") None ∷ [];
      replies = reply.Late ∷ [];
      held = claim Exclusive (object.Name (codes "a")) ∷ [];
      outcome = Committed (late_end.NoName ∷ []);
    }

-- with room for two entries or more
its_first : (n : ℕ) → plain_from (suc (suc n)) unlinks 0 (opening_progress unlinks) ≡ its_entry ∷ []
its_first n = rw no_name refl

its_journal : plain_journal unlinks ≡ its_entry ∷ []
its_journal = its_first 9998

abbrev text_with : List Entry → List ℕ
text_with journal = let behind = progress_of unlinks journal in rendered journal (plain_lines unlinks behind.jobs) behind.state.world.words []

abbrev its_text : List ℕ
its_text =
    codes "commit t1 job 1 rank 1 began 0\n"
    ++ codes "  x_unlink a = late\n"
    ++ codes "  late 1 = no name\n"
    ++ codes "  held name a\n"
    ++ codes "job 1 main done\n"
    ++ codes "total 1 committed, 0 aborted, 0 faults, 0 remains\n"

text_of_its_entry : text_with (its_entry ∷ []) ≡ its_text
unfolding digits
text_of_its_entry = rw no_name refl

-- its text: the call is kept for the commit, and then it finds no name
pub text_of_unlinks : plain_text unlinks ≡ its_text
text_of_unlinks = ap text_with its_journal ∙ text_of_its_entry
