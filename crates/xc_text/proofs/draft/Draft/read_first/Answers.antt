use Rattle.xc_text.proofs.draft.Draft.read_first.Goals as goal

pub returns-in-Word : goal.returns-in-Word
returns-in-Word c = rw c.in-Word.is c.read_word.ensures
