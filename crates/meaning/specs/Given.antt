-- When each number is handed back, and with which place (01, "What is handed back", the column "given when"), as facts.
use Rattle.std.specs.Prelude.{ℕ, ◌≤◌, ◌<◌, ◌≡◌, ◌⊎◌, Bool, not, T, length, get_or, take}
use mathlib.Core.List.{List, Memᴰ}
use Rattle.meaning.specs.Syntax.{Rules}
use Rattle.meaning.specs.Limits.{most_file_bytes}
use Rattle.meaning.specs.Fields.{Field, cut, fields}
use Rattle.meaning.specs.Refusals.{is_cut, wrong_tag, too_many, malformed, name_taken}
use Rattle.meaning.specs.Encoding.{encode_rules}
use Rattle.meaning.specs.Legal.{Legal, arities}
use Rattle.meaning.specs.States.{MoreStates}
use Rattle.meaning.specs.Files.{rules_of}
use Rattle.meaning.specs.Certificates.{encode_sheet, GivenSheet}
use Rattle.meaning.specs.Calls.{predicate_arities, states_of, interpretation_of, atoms_of, Buffers, LongEnough, Lent, LentEnough}

-- n is the number of the first of five tests that passes, in 01's order: 2, 3, 6, 4, 5; none of them passes
abbrev pub FirstOf : Bool → Bool → Bool → Bool → Bool → ℕ → Type 0
FirstOf two three six four five n =
    ((n ≡ 2) × T two)
    ⊎ (((n ≡ 3) × T (not two) × T three)
    ⊎ (((n ≡ 6) × T (not two) × T (not three) × T six)
    ⊎ (((n ≡ 4) × T (not two) × T (not three) × T (not six) × T four)
    ⊎ ((n ≡ 5) × T (not two) × T (not three) × T (not six) × T (not four) × T five))))

abbrev pub NoneOf : Bool → Bool → Bool → Bool → Bool → Type 0
NoneOf two three six four five = T (not two) × T (not three) × T (not six) × T (not four) × T (not five)

-- a field, after the fields before it: the first number that fits it is n; no number fits it
abbrev pub FirstFits : List Field → Field → ℕ → Type 0
FirstFits before f n = FirstOf (is_cut f) (wrong_tag before f) (too_many before f) (malformed before f) (name_taken before f) n

abbrev pub NoneFits : List Field → Field → Type 0
NoneFits before f = NoneOf (is_cut f) (wrong_tag before f) (too_many before f) (malformed before f) (name_taken before f)

-- field k is the lowest that a number fits, and the first that fits it is n
pub record FirstRefusal (fs : List Field) (n k : ℕ) : Type 0 where
  pub inside : k < length fs
  pub here : FirstFits (take k fs) (get_or fs k cut) n
  pub lower : (j : ℕ) → j < k → NoneFits (take j fs) (get_or fs j cut)

-- the file is not too long and no field is refused
pub record NoneRefused (file : List ℕ) : Type 0 where
  pub size : length file ≤ most_file_bytes
  pub fine : (k : ℕ) → k < length (fields file) → NoneFits (take k (fields file)) (get_or (fields file) k cut)

module _ (file : List ℕ) where
  -- a symbol of arity 0 is declared
  abbrev pub HasConstant : Type 0
  HasConstant = Memᴰ 0 (arities (rules_of file).symbols)

  -- 1; then 2 to 6 at the first field that is refused; then 7
  abbrev pub GivenReading : ℕ → ℕ → Type 0
  GivenReading n k =
      ((most_file_bytes < length file) × (n ≡ 1) × (k ≡ 0))
      ⊎ (((length file ≤ most_file_bytes) × FirstRefusal (fields file) n k)
      ⊎ (NoneRefused file × (n ≡ 7) × (k ≡ length (fields file)) × ¬ HasConstant))

  -- then 8
  abbrev pub Given : ℕ → ℕ → Type 0
  Given n k =
      GivenReading n k
      ⊎ (NoneRefused file
      × (n ≡ 8)
      × (k ≡ length (fields file))
      × HasConstant
      × MoreStates (arities (rules_of file).symbols) (rules_of file).productions)

  -- accepted: none of 1 to 8 fits
  abbrev pub Accepted : Type 0
  Accepted = NoneRefused file × HasConstant × ¬ MoreStates (arities (rules_of file).symbols) (rules_of file).productions

  -- an analysis: then 9
  abbrev pub GivenAnalysis : Buffers → ℕ → ℕ → Type 0
  GivenAnalysis before n k = Given n k ⊎ ((n ≡ 9) × (k ≡ 0) × Accepted × ¬ LongEnough file before)

  -- writing a sheet: then 14
  abbrev pub GivenWriting : Buffers → List ℕ → ℕ → ℕ → Type 0
  GivenWriting before sheet n k =
      GivenAnalysis before n k
      ⊎ ((n ≡ 14)
      × (k ≡ 0)
      × Accepted
      × LongEnough file before
      × (length sheet < length (encode_sheet (states_of file) (atoms_of file))))

  -- a sheet check: 1 to 8, then 9, then 10 to 13
  abbrev pub GivenCheck : List ℕ → Lent → ℕ → ℕ → Type 0
  GivenCheck sheet before n k =
      Given n k
      ⊎ (((n ≡ 9) × (k ≡ 0) × Accepted × ¬ LentEnough file before)
      ⊎ (Accepted
      × LentEnough file before
      × GivenSheet (states_of file) (interpretation_of file) (predicate_arities file) (rules_of file).clauses sheet n k))

-- laid out and within the limits of 01: the bytes of legal rules, of which at most 16 states exist
pub record Acceptable (file : List ℕ) : Type 0 where
  pub rules : Rules
  pub bytes : file ≡ encode_rules rules
  pub legal : Legal rules
  pub few : ¬ MoreStates (arities rules.symbols) rules.productions
