-- Cases: what the definitions work out beside what is expected of them, and how days and expected figures are written.
use Rattle.std.specs.Prelude.{ℕ, zero, suc, ◌-◌, ◌/◌, ◌%◌, ◌^◌, List, [], ◌∷◌, ◌++◌, map, Bool, true, false, ◌&&◌, length, get_or, replicate, eqb}
use Prim.Native.Char.{code}
use Prim.Native.String.{String, len, char_at}
use Rattle.rules.specs.Layout.{line_at}
use Rattle.rules.specs.Cutting.{cut_answer}
use Rattle.rules.specs.Viewing.{view_answer}
use Rattle.rules.specs.Book.{bits64, book_after}
use Rattle.rules.specs.Report.{report_text}
use Rattle.rules.specs.declared.View.{View}
use Rattle.rules.specs.declared.Cut.{Cut}

-- what is worked out, and what is expected
pub record Case : Type 0 where
  pub found : List ℕ
  pub expected : List ℕ

abbrev pub same : List ℕ → List ℕ → Bool
same [] [] = true
same [] (y ∷ ys) = false
same (x ∷ xs) [] = false
same (x ∷ xs) (y ∷ ys) = eqb x y && same xs ys

abbrev pub every : List Case → Bool
every [] = true
every (c ∷ cs) = same c.found c.expected && every cs

-- Days and expected figures are written by these, which use no definition of document 01.
abbrev pub concat : List (List ℕ) → List ℕ
concat [] = []
concat (l ∷ ls) = l ++ concat ls

-- words as bytes, the low one first
abbrev pub bytes_of : List ℕ → List ℕ
bytes_of [] = []
bytes_of (v ∷ vs) = v % 256 ∷ v / 256 % 256 ∷ v / 65536 % 256 ∷ v / 16777216 % 256 ∷ bytes_of vs

-- a text as its bytes: m characters from the i-th on, and all
abbrev chars_from : String → ℕ → ℕ → List ℕ
chars_from t i zero = []
chars_from t i (suc m) = code (char_at t i) ∷ chars_from t (suc i) m

abbrev pub text_of : String → List ℕ
text_of t = chars_from t 0 (len t)

-- lines, each with a line feed
abbrev pub lines_of : List String → List ℕ
lines_of [] = []
lines_of (t ∷ ts) = text_of t ++ (10 ∷ lines_of ts)

-- with zeros up to n places
abbrev pub filled : ℕ → List ℕ → List ℕ
filled n l = l ++ replicate (n - length l) 0

-- a bid's 23 words from its breaks and its prices
abbrev pub bid : List ℕ → List ℕ → List ℕ
bid br pr = length br ∷ filled 11 br ++ filled 11 pr

-- minus n as a signed 64-bit number
abbrev pub neg : ℕ → ℕ
neg n = 2 ^ 64 - n

-- of one schedule: price, flag, O, E, AGINO, MSIQ, C, and the four kinds of payment
abbrev pub row : ℕ → ℕ → ℕ → ℕ → ℕ → ℕ → ℕ → ℕ → ℕ → ℕ → ℕ → List ℕ
row p f o e g q c i r m a = p ∷ f ∷ o ∷ e ∷ g ∷ q ∷ c ∷ i ∷ r ∷ m ∷ a ∷ []

-- the i-th number of each row
abbrev column : ℕ → List (List ℕ) → List ℕ
column i [] = []
column i (r ∷ rs) = get_or r i 0 ∷ column i rs

-- every field of a view and of a cutter's answer, each whole
unfoldable pub view_fields : View → List ℕ
view_fields v =
    v.number ∷ v.end ∷ v.width ∷ v.actual ∷ v.price ++ v.flag ++ v.operating ++ v.pricing ++ v.agino ++ v.msiq ++ v.constrained ++ v.matches
    ++ map bits64 v.initial ++ map bits64 v.revised ++ map bits64 v.modified ++ map bits64 v.finals
    ++ v.excess.pricing ++ v.excess.operating ++ (v.excess.actual ∷ [])

unfoldable pub cut_fields : Cut → List ℕ
cut_fields c = c.number ∷ c.count ∷ c.ends ++ c.prices ++ c.flags ++ c.missing ++ (c.reserved ∷ [])

-- a number
abbrev pub number : ℕ → ℕ → Case
number n e = record { found = n ∷ []; expected = e ∷ [] }

-- the cases of a day d: the lent book b after settling, the report, the view of step j of line k with the line's excess, the cutter's answer
-- for line k
abbrev pub booked : List ℕ → List ℕ → List ℕ → Case
booked d b e = record { found = book_after d b; expected = e }

abbrev pub printed : List ℕ → List ℕ → Case
printed d e = record { found = report_text d; expected = e }

abbrev pub viewed_over : List ℕ → ℕ → ℕ → List ℕ → List (List ℕ) → List ℕ → List ℕ → List ℕ → ℕ → Case
viewed_over d k j e r m xp xo xa =
    record {
      found = view_fields (view_answer d k j);
      expected =
          0 ∷ e ++ column 0 r ++ column 1 r ++ column 2 r ++ column 3 r ++ column 4 r ++ column 5 r ++ column 6 r ++ m
          ++ column 7 r ++ column 8 r ++ column 9 r ++ column 10 r ++ xp ++ xo ++ (xa ∷ []);
    }

-- the same of a line without excess
abbrev pub viewed : List ℕ → ℕ → ℕ → List ℕ → List (List ℕ) → List ℕ → Case
viewed d k j e r m = viewed_over d k j e r m (replicate 5 0) (replicate 5 0) 0

abbrev pub cut_into : List ℕ → ℕ → List ℕ → List (List ℕ) → List ℕ → List ℕ → Case
cut_into d k e p f m =
    record {
      found = cut_fields (cut_answer (line_at d k));
      expected = 0 ∷ length e ∷ filled 56 e ++ concat (map (filled 56) p) ++ f ++ m ++ (0 ∷ []);
    }
