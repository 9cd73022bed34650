-- A number's bytes copied over a part of others.
use Prim.Native.Nat.{ℕ, ◌+◌, ◌-◌, ◌≤◌}
use native.Mathlib.Omega.{arith}
use mathlib.Core.Path.{◌≡◌, ◌∙◌, ap}
use mathlib.Core.List.{List}
use lib.ListN.{length}
use lib.Seq.{sets}
use borrow.Author.Rules.{rules}
use borrow.Rule.Slice.PartMut.{put_mid}
use Rattle.std.specs.Int.{w32, w64, to_le_bytes}
use Rattle.std.proofs.lemmas.List.Edits.{sets-eq}
use Rattle.std.proofs.lemmas.Slice.{overwrites}
use Rattle.rules.specs.Book.{le}

stored : (b q : List ℕ) (at n : ℕ) → length q ≡ n → at + n ≤ length b → put_mid at (at + n - at) b q ≡ sets b at q
stored b q at n e h = search (rules, sets-eq, overwrites)

word_is : (v : ℕ) → to_le_bytes w32 v ≡ le 4 v
unfolding le
word_is v = grind arith

long_is : (v : ℕ) → to_le_bytes w64 v ≡ le 8 v
unfolding le
long_is v = grind arith

module _ (b q : List ℕ) (at : ℕ) where
  pub put_word_is : (v : ℕ) → at + 4 ≤ length b → q ≡ to_le_bytes w32 v → put_mid at (at + 4 - at) b q ≡ sets b at (le 4 v)
  unfolding le
  put_word_is v h e =
      let k : q ≡ le 4 v = e ∙ word_is v in
      stored b q at 4 (ap length k) h ∙ ap (sets b at) k

  pub put_long_is : (v : ℕ) → at + 8 ≤ length b → q ≡ to_le_bytes w64 v → put_mid at (at + 8 - at) b q ≡ sets b at (le 8 v)
  unfolding le
  put_long_is v h e =
      let k : q ≡ le 8 v = e ∙ long_is v in
      stored b q at 8 (ap length k) h ∙ ap (sets b at) k
