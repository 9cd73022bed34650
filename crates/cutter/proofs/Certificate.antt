-- The cutter's answer for an accepted line meets the certificate.
use Prim.Native.Nat.{ℕ, ◌-◌, ◌<◌}
use Rattle.std.proofs.Common.{arith, ◌∙◌, ap, subst}
use Rattle.std.specs.Prelude.{◌≡◌, List}
use Rattle.std.proofs.Math.Path.{sym}
use Rattle.rules.specs.Fold.{before}
use Rattle.rules.specs.Layout.{bid_count}
use Rattle.rules.specs.Steps.{ends, step_count, upper_end}
use Rattle.rules.specs.Refusals.{cut_fault}
use Rattle.rules.specs.Cutting.{cut_of, cut_answer}
use Rattle.rules.specs.declared.Cut.{Cut}
use Rattle.laws.specs.Folds.{or_else_both, sum_same}
use Rattle.laws.specs.Accepted.{AcceptedLine, accepted_line}
use Rattle.cutter.specs.Lists.{in_at, place_of_lem}
use Rattle.cutter.specs.Ends.{EndOf, end_of, of_end, count_most, count_some, last_is}
use Rattle.cutter.specs.Prices.{price_rule, first_flag, price_order, flag_stays}
use Rattle.cutter.specs.Certificate.{width_at, flag_at, CutterCertificate, fault_none, answer_whole, before_at, end_at_lem, end_rises, width_at_lem, price_at_lem, flag_at_lem, missing_at, end_mono, telescopes, before_last}

certified_whole : (w : List ℕ) → AcceptedLine w → CutterCertificate w (cut_of w)
unfolding cut_of
certified_whole w h =
    record {
      rise = λ k l. rw (before_at w h k, end_at_lem w h k) (end_rises w h k l);
      only =
          λ u e.
          let p = end_at_lem w h e.step in
          subst (λ (x : ℕ). EndOf w x) (sym p ∙ e.same) (end_of w (upper_end w e.step) (unfold step_count upper_end in in_at (ends w) e.step e.below));
      every =
          λ u e.
          let p = place_of_lem (of_end w u e) in
          record { step = p.place; below = unfold step_count in p.below; same = unfold upper_end in end_at_lem w h p.place ∙ p.same };
      some = count_some w h;
      few = count_most w h;
      last = end_at_lem w h (step_count w - 1) ∙ last_is w h;
      wide = λ k l. let a = end_rises w h k l in rw (width_at_lem w h k) (omega arith);
      whole =
          sum_same (step_count w) (width_at (cut_of w)) (λ k. upper_end w k - before (upper_end w) k) (λ k l. width_at_lem w h k)
          ∙ telescopes (step_count w) (upper_end w) (end_rises w h)
          ∙ before_last (step_count w) (upper_end w) (count_some w h)
          ∙ last_is w h;
      priced = λ s k a b. rw (end_at_lem w h k, price_at_lem w h s k a b, flag_at_lem w h s k a b) (price_rule w h s (upper_end w k) a);
      run =
          λ s j k a l b e.
          let m = end_mono w h j k l b in
          rw (flag_at_lem w h s k a b) (flag_stays w s (upper_end w j) (upper_end w k) m (sym (flag_at_lem w h s j a (omega arith)) ∙ e));
      counted = λ s a. missing_at w h s a;
      order =
          λ s j k a l b.
          rw (price_at_lem w h s j a (omega arith), price_at_lem w h s k a b)
          (price_order w h s (upper_end w j) (upper_end w k) a (end_mono w h j k l b));
    }

-- THE CERTIFICATE: of any answer that meets the contract of `cut` and whose number is 0
pub certified : (w : List ℕ) (r : Cut) → r ≡ cut_answer w → r.number ≡ 0 → CutterCertificate w r
unfolding cut_fault
certified w r e n =
    let f = fault_none w (sym (ap (λ (c : Cut). c.number) e) ∙ n) in
    let h = accepted_line w (or_else_both _ _ f).right in
    subst (λ (c : Cut). CutterCertificate w c) (sym (e ∙ answer_whole w f)) (certified_whole w h)

-- so the answer says which bids were pulled: those whose first step is flagged (the converse is in `priced`, by `pulled_rule`)
pub pulled_seen : (w : List ℕ) (r : Cut) → r ≡ cut_answer w → r.number ≡ 0 → (s : ℕ) → s < 5 → flag_at r s 0 ≡ 1 → bid_count w s ≡ 0
unfolding cut_fault
pulled_seen w r e n s l g =
    let f = fault_none w (sym (ap (λ (c : Cut). c.number) e) ∙ n) in
    let h = accepted_line w (or_else_both _ _ f).right in
    let q = subst (λ (c : Cut). flag_at c s 0 ≡ 1) (e ∙ answer_whole w f) g in
    first_flag w h s l (sym (flag_at_lem w h s 0 l (count_some w h)) ∙ q)
