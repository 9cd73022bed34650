-- `step_finals::final_shares::with_share` meets its contract.
use Rattle.std.proofs.Common.{arith}
use Rattle.numbers.specs.Shares.{share_most}
use Rattle.step_finals.proofs.final_shares.with_share.Goals as goal

pub share-requires : goal.share-requires
share-requires c =
    let h = c.requires.0.some c.requires.1 in
    omega (arith, c.requires.0)

pub overflow_add-revised : goal.overflow_add-revised
overflow_add-revised c =
    let h = c.requires.0 in
    omega (arith, rw c.from.ensures at c.share.ensures, share_most c.args.total c.args.fall c.args.base h.part)
