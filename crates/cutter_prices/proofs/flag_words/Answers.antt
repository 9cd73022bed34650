-- `cutter_prices::flag_words` meets its contract.
use Rattle.std.proofs.Common.{rules}
use Rattle.std.proofs.iter.Serving.{serving}
use Rattle.rules.specs.Fold.{at}
use Rattle.cutter_cursors.specs.Places.{five_of}
use Rattle.cutter_prices.specs.Step.{run_word}
use Rattle.cutter_prices.proofs.flag_words.Goals as goal

pub from_fn-requires : goal.from_fn-requires
from_fn-requires c = grind (serving, c.requires.1)

pub returns : goal.returns
returns c =
    five_of 0 (λ s. run_word c.args.n (at c.args.m.count s)) _ c.from_fn.ensures.items.long
    (λ s l. search (rules, c.from_fn.ensures.items.at s 0 l))
