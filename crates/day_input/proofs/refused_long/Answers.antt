-- The refusal that is written is the whole file's.
use Rattle.std.proofs.Common.{◌≡◌, ◌≤◌, arith, length}
use Rattle.day_input.proofs.Stream.{long_told}
use Rattle.day_input.proofs.refused_long.Goals as goal

pub returns-clause-told : goal.returns-clause-told
returns-clause-told g c =
    λ full whole.
    let n-is : c.args.n ≡ 65536 = omega arith in
    let fits : c.put_long-end.result ≤ length c.put_long-end.new.out = omega arith in
    long_told _ _ _ c.args.buffer.now _ _ c.args.n c.in_ok-more.more c.put_long-end.result n-is whole (c.in_ok-more.ensures.counted full)
    c.put_long-end.ensures.by_index fits c.in_ok-write_all.ensures.bytes
