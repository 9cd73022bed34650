-- `day_pools::window_taken` meets its contract.
use Prim.Native.Nat.{ℕ}
use native.Mathlib.Omega.{arith}
use mathlib.Core.Path.{◌≡◌, ap}
use mathlib.Core.List.{List}
use borrow.Author.Rules.{rules}
use Rattle.cutter.proofs.positions.Laws.{room, limit}
use Rattle.day_pools.proofs.Laws.{sized_at}
use Rattle.day_pools.proofs.Passes.{line_ready, past_next, here_own, within_there}
use Rattle.day_pools.proofs.Taken.{taken_to, gap_there, word_goes, word_ends, word_bit, word_half, taken_first, shared_there, taken_fits, taken_next}
use Rattle.day_pools.proofs.Taken.{money_whole_is}
use Rattle.day_pools.proofs.window_taken.Goals as goal

pub price_slots-slots-requires : goal.price_slots-slots-requires
price_slots-slots-requires c = line_ready c.args.line.now.ready

pub loop-word-init : goal.loop-word-init
loop-word-init c =
    let line = c.args.line.now in
    let kept = c.requires.3 in (
      here_own line.ready kept.entered,
      kept.word,
      ap (λ (z : List ℕ). record { plus = c.args.plus; minus = z }) (taken_first line.day.now line.k kept.entered),
    )

pub taken_after-money-requires : goal.taken_after-money-requires
taken_after-money-requires c =
    let line = c.args.line.now in
    let d = line.day.now in
    let k = line.k in
    let a = line.ready.accepted in
    let l = line.ready.there in
    let j = c.loop-word.at.step in
    let inv = c.loop-word.invariant in
    let below = word_goes d k _ j _ inv.1 c.loop-word-test.true in
    let gap = gap_there d k line.ready.line inv.0.swept below in (
      inv.0,
      gap,
      c.price_slots-slots.ensures,
      sized_at d a k l j below,
      shared_there d k a l j below c.args.p c.requires.1 c.requires.0 _ _ c.shares_of-h.ensures.0 c.shares_of-h.ensures.1,
      taken_fits d k a l j below c.args.p c.requires.1 c.requires.0 _ _ c.shares_of-h.ensures.0 c.shares_of-h.ensures.1 _ _ inv.2,
    )

pub next-at-requires : goal.next-at-requires
next-at-requires c =
    let line = c.args.line.now in
    let inv = c.loop-word.invariant in
    let below = word_goes line.day.now line.k _ c.loop-word.at.step _ inv.1 c.loop-word-test.true in
    (inv.0.swept, gap_there line.day.now line.k line.ready.line inv.0.swept below)

pub loop-word-smaller : goal.loop-word-smaller
loop-word-smaller c = omega (arith, c.loop-word-test.true)

pub loop-word-preserved : goal.loop-word-preserved
loop-word-preserved c =
    let line = c.args.line.now in
    let d = line.day.now in
    let k = line.k in
    let j = c.loop-word.at.step in
    let inv = c.loop-word.invariant in
    let below = word_goes d k _ j _ inv.1 c.loop-word-test.true in
    let gap = gap_there d k line.ready.line inv.0.swept below in
    let bit = word_bit d k _ j _ inv.1 below in
    let next = c.next-at.ensures in (
      past_next inv.0 gap next.0 next.1 next.2,
      rw next.2 (word_half d k _ j _ inv.1 below),
      rw next.2 (taken_next d k line.ready.accepted line.ready.there j below c.args.p c.requires.1 c.requires.0 _ _
          c.shares_of-h.ensures.0 c.shares_of-h.ensures.1 _ _ _ _ inv.2 bit c.taken_after-money.ensures),
    )

pub returns : goal.returns
returns c =
    let line = c.args.line.now in
    let inv = c.loop-word.invariant in
    let j = c.loop-word.at.step in
    money_whole_is line.day.now line.k _ _ j inv.2 c.requires.2
    (within_there line.ready inv.0)
    (word_ends line.day.now line.k _ j _ inv.1 c.loop-word-test.false)
