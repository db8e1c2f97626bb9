-- `sheet_writer::put_atom_field` meets its contract: the first four bytes of the field, then the row. Assumes nothing.
use Rattle.meaning.proofs.Prelude.{ℕ, ◌+◌, ◌≤◌, ◌≡◌, sym, subst, List, [], ◌∷◌, ◌++◌, length, take, arith}
use Rattle.meaning.proofs.Definitions.{encode_field, atom_tag, row_of}
use Rattle.byte_runs.specs.Pasted.{Put}
use Rattle.byte_runs.proofs.Putting.{put_room, put_then}
use Rattle.sheet_writer.proofs.Rows.{row-part}
use Rattle.sheet_writer.proofs.Fields.{field_parts}
use Rattle.sheet_writer.proofs.put_atom_field.Goals as goal

-- the part of the array is the row, so that the field is put by its parts, for which there is room
fits : (m n p c at : ℕ) (sheet : List ℕ) {row : List ℕ} → n ≤ 3 → row ≡ row_of m n c → at + length (encode_field atom_tag (p ∷ row_of m n c)) ≤ length sheet
    → at + length ((atom_tag ∷ 0 ∷ (n + 1) ∷ p ∷ []) ++ row) ≤ length sheet
fits m n p c at sheet narrow row room = subst (λ (l : List ℕ). at + length l ≤ length sheet) (sym (field_parts m n p c narrow row)) room

pub put_bytes-requires : goal.put_bytes-requires
put_bytes-requires c = let a = c.args in
    let row = row-part a.m a.n a.c c.from.result c.row_at-row.result c.row_at-row.ensures c.from.ensures in
    put_room c.args.sheet.now c.args.at (atom_tag ∷ 0 ∷ (c.args.n + 1) ∷ c.args.p ∷ []) (take c.from.result c.row_at-row.result) (fits a.m a.n a.p a.c a.at a.sheet.now c.requires.2 row c.requires.4)
    c.put_bytes-next.ensures

pub returns : goal.returns
returns c = let a = c.args in
    let row = row-part a.m a.n a.c c.from.result c.row_at-row.result c.row_at-row.ensures c.from.ensures in
    subst (λ (l : List ℕ). Put a.sheet.now a.at l c.put_bytes.new.out c.put_bytes.result)
    (field_parts a.m a.n a.p a.c (omega arith) row)
    (put_then a.sheet.now a.at (atom_tag ∷ 0 ∷ (a.n + 1) ∷ a.p ∷ []) (take c.from.result c.row_at-row.result) (fits a.m a.n a.p a.c a.at a.sheet.now c.requires.2 row c.requires.4)
    c.put_bytes-next.ensures c.put_bytes.ensures)
