use Rattle.xc_ranges.proofs.Few.{few_jobs, few_totals, short_journal}
use Rattle.xc_ranges.proofs.end.end_in_range.Goals as goal

pub entries-requires : goal.entries-requires
entries-requires c = short_journal c.args.journal.now c.args.lines.now c.args.values.now c.args.kept.now c.requires.text

pub returns : goal.returns
returns c =
    record {
      entries = c.entries.ensures;
      each_job = c.jobs.ensures;
      few_jobs = few_jobs c.args.journal.now c.args.lines.now c.args.values.now c.args.kept.now c.requires.text;
      each_word = c.words.ensures;
      few_words = c.requires.words;
      items = c.items.ensures;
      totals = few_totals c.args.journal.now c.args.lines.now c.args.values.now c.args.kept.now c.requires.text c.entries.ensures c.requires.replies;
    }
