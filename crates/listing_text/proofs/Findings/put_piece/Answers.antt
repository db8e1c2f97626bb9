-- `listing_text::Findings::put_piece` meets its contract: each way out puts the piece of its number. Assumes nothing.
use Rattle.meaning.proofs.Prelude.{ℕ, ◌-◌, ap, subst, List, length, arith}
use Rattle.byte_runs.specs.Pasted.{Put}
use Rattle.parser.proofs.Limits.{accepted-few}
use Rattle.listing_text.proofs.AtHand.{piece_of_states, piece_of_model, piece_of_queries, query-inside}
use Rattle.listing_text.proofs.Findings.put_piece.Goals as goal

pub put_states-requires : goal.put_states-requires
put_states-requires c = let r = c.requires.results.0 in
    record {
      file_value = (r.answer, c.requires.results.1);
      states_len_bound = (omega (arith, ap length r.states_are_lem, accepted-few c.args.self.now.file.now r.answer), omega arith, c.requires.atoms_value.3);
    }

pub returns-then-k-m : goal.returns-then-k-m
returns-then-k-m c = let a = c.args in
    let put = c.put_states in
    (subst (λ (l : List ℕ). Put a.out.now a.at l put.new.out put.result) (piece_of_states a.self.now.file.now a.self.now.states.now a.self.now.marks.now a.self.now.verdicts.now c.requires.results.0 a.k (omega arith)) put.ensures.0, put.ensures.1)

pub put_model-requires : goal.put_model-requires
put_model-requires c = let r = c.requires.results.0 in
    record {
      file_value = (r.answer, c.requires.results.1, ap length r.states_are_lem);
      marks_value = (r.marks_are_lem, omega arith, c.requires.atoms_value.3);
    }

pub returns-then-j-self : goal.returns-then-j-self
returns-then-j-self c = let a = c.args in
    let put = c.put_model in
    (subst (λ (l : List ℕ). Put a.out.now a.at l put.new.out put.result) (piece_of_model a.self.now.file.now a.self.now.states.now a.self.now.marks.now a.self.now.verdicts.now c.requires.results.0 a.k (a.k - length a.self.now.states.now - 1) c.requires.atoms_value.0 c.requires.atoms_value.1 (omega arith) (omega arith)) put.ensures.0, put.ensures.1)

pub put_queries-requires : goal.put_queries-requires
put_queries-requires c = let a = c.args in
    (query-inside a.self.now.file.now a.self.now.states.now a.self.now.marks.now a.self.now.verdicts.now c.requires.results.0 a.k (a.k - length a.self.now.states.now - 1 - length a.self.now.marks.now - 1) c.requires.atoms_value.2 (omega arith), c.requires.atoms_value.3)

pub returns : goal.returns
returns c = let a = c.args in
    let put = c.put_queries in
    (subst (λ (l : List ℕ). Put a.out.now a.at l put.new.out put.result) (piece_of_queries a.self.now.file.now a.self.now.states.now a.self.now.marks.now a.self.now.verdicts.now c.requires.results.0 a.k (a.k - length a.self.now.states.now - 1 - length a.self.now.marks.now - 1) (omega arith) (query-inside a.self.now.file.now a.self.now.states.now a.self.now.marks.now a.self.now.verdicts.now c.requires.results.0 a.k (a.k - length a.self.now.states.now - 1 - length a.self.now.marks.now - 1) c.requires.atoms_value.2 (omega arith))) put.ensures.0, put.ensures.1)
