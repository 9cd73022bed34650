-- Two days that agree so (`SameDay`) have the same payments, totals, book and text.
use Rattle.std.specs.Prelude.{ℕ, ◌<◌, ◌≡◌, ◌++◌, eqb, pos}
use Rattle.std.proofs.Common.{◌∙◌}
use Rattle.std.proofs.Math.Path.{ap}
use Rattle.std.proofs.Math.Bool.{false, cond, not}
use Rattle.rules.specs.Fold.{sum_to, sum_z, some_to, joined, eqb_z, five}
use Rattle.rules.specs.Matching.{rise, fall}
use Rattle.rules.specs.Payments.{Day, on_step, is_paid, initial, revised, final_payment, over_side, pool_total, pool_change, pool_base, pool_differs, pool_of, step_final}
use Rattle.rules.specs.Totals.{line_payment, total, adjusted, totals, adjusted_total}
use Rattle.rules.specs.Refusals.{book_length}
use Rattle.rules.specs.Book.{word_bytes, signed_bytes, book_header, total_pair, line_entry, book_of}
use Rattle.rules.specs.Report.{decimal, day_text, total_text, adjusted_text, space, line_feed, side_text, five_numbers, line_text, settled_text}
use Rattle.rules.specs.declared.Step.{Step}
use Rattle.laws.specs.Folds.{sum_same, some_same}
use Rattle.old_layout.specs.Same.{Decided, counted, sum_z_same, joined_same}
use Rattle.old_layout.specs.Days.{SameDay}

module _ {y z : Day} (h : SameDay y z) where
  -- over the steps of a side
  over_same : {A : Type 0} (fold : ℕ → (ℕ → A) → A) (none : A) → Decided fold → (sd : ℕ) (f : Step → A) → over_side fold none y sd f ≡ over_side fold none z sd f
  over_same {A} fold none same sd f =
      counted fold same h.lines _ _
      (λ k l.
      let steps = counted fold same (h.count k l) (λ j. f (y.step k j)) (λ j. f (z.step k j)) (λ j g. ap f (h.step k j l g)) in
      λ i. cond (eqb (h.side k l i) sd) (steps i) none)

  pool_same : (sd s : ℕ) → pool_of y sd s ≡ pool_of z sd s
  unfolding pool_of pool_total pool_change pool_base pool_differs
  pool_same sd s =
      rw (
        over_same sum_z (pos 0) sum_z_same sd (λ x. revised x s),
        over_same sum_to 0 sum_same sd (λ x. cond (is_paid x s) (rise (on_step x) s) 0),
        over_same sum_to 0 sum_same sd (λ x. cond (is_paid x s) (fall (on_step x) s) 0),
        over_same some_to false some_same sd (λ x. not (eqb_z (revised x s) (initial x s))),
      )

  pub final_same : (s k j : ℕ) → k < z.lines → j < z.count k → step_final y s k j ≡ step_final z s k j
  unfolding step_final
  final_same s k j l g =
      let pool = ap (λ (sd : ℕ). pool_of y sd s) (h.side k l) ∙ pool_same (z.side k) s in
      λ i. final_payment (h.step k j l g i) (h.clawback i) s (pool i)

  pub payment_same : (s k : ℕ) → k < z.lines → line_payment y s k ≡ line_payment z s k
  unfolding line_payment
  payment_same s k l = counted sum_z sum_z_same (h.count k l) (step_final y s k) (step_final z s k) (λ j g. final_same s k j l g)

  total_same : (s : ℕ) → total y s ≡ total z s
  unfolding total
  total_same s = counted sum_z sum_z_same h.lines (line_payment y s) (line_payment z s) (λ k l. payment_same s k l)

  adjusted_same : (s : ℕ) → adjusted_total y s ≡ adjusted_total z s
  unfolding adjusted_total totals
  adjusted_same s = λ i. adjusted (five (λ r. total_same r i)) s

  -- the book
  header_same : book_header y ≡ book_header z
  unfolding book_header
  header_same = λ i. word_bytes (h.lines i) ++ word_bytes 16 ++ word_bytes 96 ++ word_bytes (book_length (h.lines i))

  pair_same : (s : ℕ) → total_pair y s ≡ total_pair z s
  unfolding total_pair
  pair_same s = λ i. signed_bytes (total_same s i) ++ signed_bytes (adjusted_same s i)

  entry_same : (k : ℕ) → k < z.lines → line_entry y k ≡ line_entry z k
  unfolding line_entry
  entry_same k l =
      λ i.
      word_bytes (h.participant k l i) ++ word_bytes (h.point k l i) ++ word_bytes (h.side k l i) ++ word_bytes (h.count k l i)
      ++ joined 5 (λ s. signed_bytes (payment_same s k l i))

  pub same_book : book_of y ≡ book_of z
  unfolding book_of
  same_book =
      let entries = counted joined joined_same h.lines (line_entry y) (line_entry z) entry_same in
      λ i. header_same i ++ joined 5 (λ s. pair_same s i) ++ entries i

  -- the settling program's text
  line_text_same : (k : ℕ) → k < z.lines → line_text y k ≡ line_text z k
  unfolding line_text
  line_text_same k l =
      λ i.
      decimal (h.participant k l i) ++ space ++ decimal (h.point k l i) ++ space ++ side_text (h.side k l i) ++ space ++ decimal (h.count k l i)
      ++ five_numbers (λ s. payment_same s k l i)

  pub same_text : settled_text y ≡ settled_text z
  unfolding settled_text
  same_text =
      let lines = counted joined joined_same h.lines (line_text y) (line_text z) line_text_same in
      λ i.
      day_text ++ decimal (h.lines i) ++ line_feed
      ++ lines i
      ++ total_text ++ five_numbers (λ s. total_same s i)
      ++ adjusted_text ++ five_numbers (λ s. adjusted_same s i)
