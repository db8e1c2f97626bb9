-- `sheet_writer::put_sheet` meets its contract: the needed length is looked at before a byte is put. Assumes nothing.
use Rattle.meaning.proofs.Prelude.{sym, length, arith}
use Rattle.sheet_writer.specs.Fits.{sheet_of}
use Rattle.sheet_writer.proofs.Sheets.{atoms-most, parts_length, sheet_put, room-kept, fits, too_short}
use Rattle.sheet_writer.proofs.put_sheet.Goals as goal

pub overflow_add-needed : goal.overflow_add-needed
overflow_add-needed c = omega (arith, c.atoms_length.ensures, atoms-most (length c.args.found.now) c.args.preds.now c.args.marks.now c.requires.1 c.requires.2 c.requires.3 c.requires.4, c.requires.1)

pub returns-then-sheet-needed : goal.returns-then-sheet-needed
returns-then-sheet-needed c = let size = parts_length c.args.found.now c.args.preds.now c.args.marks.now c.atoms_length.ensures in
    let bytes = sheet_of c.args.found.now c.args.preds.now c.args.marks.now in
    (too_short bytes c.args.sheet.now size (omega arith), sym (room-kept bytes c.args.sheet.now size (omega arith)))

pub returns : goal.returns
returns c = let length-is = c.atoms_length.ensures in (
  fits (sheet_of c.args.found.now c.args.preds.now c.args.marks.now) c.args.sheet.now (parts_length c.args.found.now c.args.preds.now c.args.marks.now length-is) (omega arith),
  sheet_put c.args.found.now c.args.preds.now c.args.marks.now c.args.sheet.now (omega arith) length-is c.put_state_fields-at.ensures c.put_atom_fields.ensures,
)
