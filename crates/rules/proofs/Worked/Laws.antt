-- From a computed test over a list of cases to the equation of each case.
use Rattle.std.specs.Prelude.{ℕ, zero, suc, ◌≡◌, refl, List, [], ◌∷◌, ◌++◌, Bool, true, false, ◌&&◌, get_or, eqb}
use Rattle.std.proofs.Common.{ap, eqb-true}
use Rattle.std.proofs.lemmas.Bool.{false≢true}
use Rattle.rules.proofs.Worked.Cases.{Case, same, every, number}

and_front : (a b : Bool) → a && b ≡ true → a ≡ true
and_front true b e = refl
and_front false b e = e

and_back : (a b : Bool) → a && b ≡ true → b ≡ true
and_back true b e = e
and_back false b e = absurd (false≢true e)

and_both : (a b : Bool) → a ≡ true → b ≡ true → a && b ≡ true
and_both true b e f = f
and_both false b e f = e

-- lists that pass the test are equal
pub same_sound : (xs ys : List ℕ) → same xs ys ≡ true → xs ≡ ys
same_sound [] [] e = refl
same_sound [] (y ∷ ys) e = absurd (false≢true e)
same_sound (x ∷ xs) [] e = absurd (false≢true e)
same_sound (x ∷ xs) (y ∷ ys) e =
    λ i. eqb-true x y (and_front (eqb x y) (same xs ys) e) i ∷ same_sound xs ys (and_back (eqb x y) (same xs ys) e) i

-- the cases before and behind in a list that passes
every_front : (cs ds : List Case) → every (cs ++ ds) ≡ true → every cs ≡ true
every_front [] ds e = refl
every_front (c ∷ cs) ds e = and_both (same c.found c.expected) (every cs) (and_front (same c.found c.expected) (every (cs ++ ds)) e) (every_front cs ds (and_back (same c.found c.expected) (every (cs ++ ds)) e))

every_back : (cs ds : List Case) → every (cs ++ ds) ≡ true → every ds ≡ true
every_back [] ds e = e
every_back (c ∷ cs) ds e = every_back cs ds (and_back (same c.found c.expected) (every (cs ++ ds)) e)

-- lists of cases that pass, one after another
pub every_both : (cs ds : List Case) → every cs ≡ true → every ds ≡ true → every (cs ++ ds) ≡ true
every_both [] ds e f = f
every_both (c ∷ cs) ds e f = and_both (same c.found c.expected) (every (cs ++ ds)) (and_front (same c.found c.expected) (every cs) e) (every_both cs ds (and_back (same c.found c.expected) (every cs) e) f)

-- the cases of several lists, one after another
abbrev pub all : List (List Case) → List Case
all [] = []
all (cs ∷ ls) = cs ++ all ls

-- each of them passes where all do
pub part_holds : (ls : List (List Case)) → every (all ls) ≡ true → (i : ℕ) → every (get_or ls i []) ≡ true
part_holds [] e i = refl
part_holds (cs ∷ ls) e zero = every_front cs (all ls) e
part_holds (cs ∷ ls) e (suc i) = part_holds ls (every_back cs (all ls) e) i

-- case i of a list; past its end a case of nothing
abbrev pub case_at : List Case → ℕ → Case
case_at cs i = get_or cs i (record { found = []; expected = [] })

-- each case of a list that passes: what is worked out is what is expected
pub case_holds : (cs : List Case) → every cs ≡ true → (i : ℕ) → (case_at cs i).found ≡ (case_at cs i).expected
case_holds [] e i = refl
case_holds (c ∷ cs) e zero = same_sound c.found c.expected (and_front (same c.found c.expected) (every cs) e)
case_holds (c ∷ cs) e (suc i) = case_holds cs (and_back (same c.found c.expected) (every cs) e) i

-- the same of a number
pub number_holds : (n e : ℕ) → (number n e).found ≡ (number n e).expected → n ≡ e
number_holds n e h = ap (λ l. get_or l 0 0) h
