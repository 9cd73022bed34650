-- The bytes were copied into their place.
use Rattle.std.proofs.Common.{ℕ, ◌+◌, ◌≤◌, ◌≡◌, List, ◌++◌, length, take, drop, refl, sym, ◌∙◌, arith, take_all}
use Rattle.std.proofs.lemmas.List.Edits.{sets, sets-eq}
use Rattle.std.proofs.lemmas.Slice.{put_mid-paste}
use borrow.Rule.Slice.PartMut.{put_mid}
use Rattle.text.proofs.digits.put_bytes.Goals as goal

copied : {m : List ℕ} (l t : List ℕ) (at k : ℕ) → k ≡ length t → at + length t ≤ length l → m ≡ t → put_mid at k l m ≡ sets l at t
copied {m} l t at k e h same =
    let whole : put_mid at k l m ≡ take at l ++ take (length t) t ++ drop (at + length t) l =
    put_mid-paste at k l m t (length t) same (sym e) refl in
    whole ∙ (rw (sets-eq t l at h, take_all (length t) t (omega arith)) refl)

pub returns : goal.returns
returns c =
    record {
      most = omega arith;
      end = refl;
      bytes = copied c.args.out.now c.args.text.now c.args.at _ (omega arith) c.requires c.copy_from_slice.ensures.after;
    }
