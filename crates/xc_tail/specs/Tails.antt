-- The lines behind the entries of a journal.
use Rattle.std.specs.Prelude.{◌≡◌, ℕ, List, [], ◌∷◌, ◌++◌, length, is_some}
use Rattle.xc_buffers.specs.Items.{AreKept}
use Rattle.xc_data.specs.declared.entry.JobLine.{JobLine}
use Rattle.xc_data.specs.declared.entry.KeptItem.{KeptItem}
use Rattle.xc_host.specs.Contents.{Contents, contents_of}
use Rattle.xc_host.specs.Kept.{with_kept}
use Rattle.xc_model.specs.Ending.{AreEnds}
use Rattle.xc_model.specs.Live.{has_clients}
use Rattle.xc_model.specs.Progress.{Following}
use Rattle.xc_model.specs.Setting.{Setting}
use Rattle.xc_print.specs.Kept.{joined}
use Rattle.xc_print.specs.declared.totals.Totals.{Totals}
use Rattle.xc_script.specs.Ask.{next_body}
use Rattle.xc_sheet.specs.Ends.{lines_of_jobs, lines_of_words, lines_of_kept, line_of_totals}
use Rattle.xc_sheet.specs.declared.lines.Line.{Line}
use Rattle.xc_tail.specs.declared.job_left.JobLeft.{JobLeft}
use Rattle.xc_text.specs.declared.script.Script.{Script}
use Rattle.xc_world.specs.World.{World}

-- data is kept in order, and stands in front of what some host holds so that together they are this world's
pub record IsKeptFront (world : World) (kept : List KeptItem) : Type 0 where
  pub order : AreKept kept
  pub contents : Contents
  pub front : with_kept contents kept ≡ contents_of world

-- where a journal led: how many entries it has, where the started jobs stand, the plain machine's world, and the totals
pub record Led : Type 0 where
  pub entries : ℕ
  pub jobs : List Following
  pub world : World
  pub totals : Totals

-- lines that are those of an end: each job ended so, by these rules after so many entries; the words and kept data are this world's,
-- and the totals are these
pub record IsTail (s : Setting) (led : Led) (lines : List Line) : Type 0 where
  pub job_lines : List JobLine
  pub kept : List KeptItem
  pub shown : lines ≡ lines_of_jobs 1 job_lines
      ++ (lines_of_words 0 led.world.words ++ (lines_of_kept (joined kept) ++ line_of_totals led.totals ∷ []))
  pub ends : AreEnds s led.entries led.jobs job_lines
  pub front : IsKeptFront led.world kept

-- what the code is told of a started job
pub record IsToldOf (script : Script) (f : Following) (j : JobLeft) : Type 0 where
  pub block : j.block ≡ f.block
  pub client : j.is_client ≡ has_clients script
  pub left : j.is_left ≡ is_some (next_body script f.job)
  pub failed : j.failed ≡ length f.failed
  pub starved : j.is_starved ≡ f.starved
