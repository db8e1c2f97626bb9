-- Demand 3, each field under the user's own sentence, of an accepted file; `demand_3` (proofs/Demand3.antt) proves it.
use Rattle.std.specs.Prelude.{ℕ, ◌≡◌, ◌↔◌, length}
use mathlib.Core.List.{List, Memᴰ}
use Rattle.meaning.specs.Syntax.{Query}
use Rattle.meaning.specs.Fields.{Bytes}
use Rattle.meaning.specs.Clauses.{Open}
use Rattle.meaning.specs.Ground.{NoneDerivable}
use Rattle.meaning.specs.Certificates.{InSheet, Valid}
use Rattle.meaning.specs.Files.{rules_of}
use Rattle.meaning.specs.Calls.{symbol_arities, predicate_arities, states_of, interpretation_of, Buffers, Written, WrittenInOrder, ours, Lent, LentEnough, Checked, CheckOf, Passes}

pub record Demand3 (file : List ℕ) : Type 1 where
  -- "For every accepted file, and whatever bytes are offered as its sheet, with lent buffers long enough, the sheet passes exactly when it is laid out as in
  -- 01, carries the file's states and is closed under its clauses.
  pub exact : (sheet : List ℕ)
      → Bytes sheet
      → {before : Lent} {result : Checked}
      → CheckOf file sheet before result
      → LentEnough file before
      → (result.answer.number ≡ 0) ↔ Valid (states_of file) (interpretation_of file) (predicate_arities file) (rules_of file).clauses sheet
  -- Whichever sheet passes, for every query of the file: if no instance meeting its conditions is in that sheet, no ground instance meeting them is
  -- derivable, at any height.
  pub sound : (sheet : List ℕ)
      → Bytes sheet
      → Passes file sheet
      → (q : Query)
      → Memᴰ q (rules_of file).queries
      → ¬ Open (states_of file) (length (states_of file)) (interpretation_of file) (InSheet sheet) q
      → NoneDerivable (symbol_arities file) (rules_of file).productions (rules_of file).clauses q
  -- The sheet we write for an accepted file passes for that file,
  pub passes : {before : Buffers} {sheet : List ℕ} {result : Written}
      → WrittenInOrder file before sheet result
      → result.answer.number ≡ 0
      → Passes file (ours result)
  -- and each atom of the sheet we write is in every sheet that passes for that file."
  pub least : {before : Buffers} {sheet : List ℕ} {result : Written}
      → WrittenInOrder file before sheet result
      → result.answer.number ≡ 0
      → (p : ℕ) (row : List ℕ)
      → InSheet (ours result) p row
      → (other : List ℕ)
      → Bytes other
      → Passes file other
      → InSheet other p row
