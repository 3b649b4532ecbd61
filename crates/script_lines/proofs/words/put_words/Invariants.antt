use Rattle.std.proofs.Common.{drop, map}
use Rattle.script_lines.specs.Words.{spaced_words, word_text}
use Rattle.script_lines.proofs.Filled.{IsFilledTo}
use Rattle.script_lines.proofs.words.put_words.Given as goal

abbrev pub invariant-loop-word : goal.invariant-loop-word
invariant-loop-word l = IsFilledTo l.fn.out.items l.out.items (spaced_words (map word_text (drop l.word-index l.words))) (spaced_words (map word_text l.words))
