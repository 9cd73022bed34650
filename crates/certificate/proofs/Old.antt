-- The certificate of a file of the old layout.
use Prim.Native.Nat.{ℕ, ◌≤◌}
use Rattle.std.proofs.Common.{sym}
use Rattle.std.specs.Prelude.{◌≡◌, refl, List, false, length}
use Rattle.rules.specs.Layout.{ad_hoc, line_count, line_at}
use Rattle.rules.specs.Refusals.{day_fault, book_length}
use Rattle.rules.specs.Cutting.{cut_answer}
use Rattle.rules.specs.Viewing.{view_answer}
use Rattle.rules.specs.Book.{book_after}
use Rattle.rules.specs.declared.View.{View}
use Rattle.rules.specs.declared.Cut.{Cut}
use Rattle.laws.specs.Layouts.{old_count}
use Rattle.certificate.specs.Certificate.{CertifiedOwn}
use Rattle.certificate.proofs.Certified.{certified_own}

pub certified_old : (d b book : List ℕ) (view : ℕ → ℕ → View) (cut : ℕ → Cut) → day_fault d ≡ 0
    → book_length (line_count d) ≤ length b → book ≡ book_after d b → ((k j : ℕ) → view k j ≡ view_answer d k j)
    → ((k : ℕ) → cut k ≡ cut_answer (line_at d k)) → ad_hoc d ≡ false → CertifiedOwn d book view cut
certified_old d b book view cut h l settled viewed cutted old =
    certified_own d b book view cut h l settled viewed cutted (sym (old_count d (ad_hoc d) refl old))
