use Rattle.std.proofs.Common.{◌≡◌, ◌++◌, ◌-◌, string_bytes}
use Rattle.xc_generator.specs.Generated.{texts, generated_word_line}
use Rattle.xc_generator.proofs.script.push_words.Given as goal

-- what is printed and what is left are all
abbrev pub invariant-loop-index : goal.invariant-loop-index
invariant-loop-index l = string_bytes l.out ++ texts generated_word_line l.index-counter (l.count - l.index-counter)
    ≡ string_bytes l.fn.out ++ texts generated_word_line 0 l.count
