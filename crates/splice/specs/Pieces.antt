-- The body of a caller with the bodies of methods in place of some of its calls, by number: the definition of inlining, of
-- numbered instructions. Counts of positions keep to 32 bits and registers to 16.
use Rattle.std.specs.Prelude.{ℕ, suc, ◌+◌, not, if◌then◌else◌, nat_eq, List, [], ◌∷◌, ◌++◌, map, length, Option, Some, None, is_some, slice_get, slice_index_or}
use Rattle.std.specs.List.{list_any}
use Rattle.insn_set.specs.declared.form.Insn.{Insn}
use Rattle.insn_set.specs.declared.form.Insn.TheVariants as insn
use Rattle.insn_regs.specs.Remade.{remade}
use Rattle.program_model.specs.declared.body.Body.{Body}
use Rattle.program_model.specs.declared.program.Method.{Method}
use Rattle.program_model.specs.declared.program.Program.{Program}
use Rattle.pass_defs.specs.Thinned.{insn_retargeted, region_moved}
use Rattle.pass_defs.specs.Inlined.{copied_line}
use Rattle.splice.specs.declared.callee.Callee.{Callee}
use Rattle.splice.specs.declared.pieces.Piece.{Piece}
use Rattle.splice.specs.declared.spliced.Spliced.{Spliced}
use Rattle.splice.specs.Shifted.{shifted, word, place_in}
use Rattle.splice.specs.Callees.{chosen_at, Taken, taken_by, is_dropped, greatest, args_of}
use Rattle.splice.specs.Moves.{moves_of}
use Rattle.splice.specs.Places.{places_of, inner_places}

abbrev pub line_at : Method → ℕ → ℕ
line_at m n = slice_index_or m.lines n 0

-- an instruction from a position of a method, with its line
abbrev pub piece_of : Method → ℕ → ℕ → Insn → Piece
piece_of m n line i = record { insn = i; line = line; origin = record { method = m.name; position = word n } }

-- ---- the copy of a method

-- what stands for a return: a goto to the end, behind a move where the result is taken
abbrev pub returned : ℕ → Taken → ℕ → ℕ → List Insn
returned shift (Some t) end from = insn.Move t.0 (shifted shift t.1) from ∷ insn.Goto end ∷ []
returned shift None end from = insn.Goto end ∷ []

-- what stands for an instruction
abbrev pub copied_insns : ℕ → Taken → ℕ → (ℕ → ℕ) → Insn → List Insn
copied_insns shift t end place (insn.Return slot from) = returned shift t end from
copied_insns shift t end place insn.ReturnVoid = insn.Goto end ∷ []
copied_insns shift t end place i = insn_retargeted place i ∷ []

-- what stands for the instructions of a method from a position on, in place of a call that has this line
abbrev pub copies_from : ℕ → Taken → ℕ → (ℕ → ℕ) → Method → ℕ → ℕ → List Insn → List Piece
copies_from shift t end place m line i [] = []
copies_from shift t end place m line i (x ∷ xs) =
    map (piece_of m i (copied_line line (line_at m i))) (copied_insns shift t end place x) ++ copies_from shift t end place m line (suc i) xs

-- ---- the caller

-- registers so many higher, and targets by a table
abbrev pub kept_insn : ℕ → List ℕ → Insn → Insn
kept_insn shift places i = insn_retargeted (place_in places) (remade (λ r. r) (shifted shift) (remade (shifted shift) (λ r. r) i))

module _ (p : Program) (m : Method) (insns : List Insn) (chosen : List (Option Callee)) (shift : ℕ) (places : List ℕ) where
  abbrev pub moved_pieces : ℕ → Callee → Insn → List Piece
  moved_pieces n c x = map (piece_of m n (line_at m n)) (moves_of p shift c (args_of x))

  -- where the copy begins behind the moves
  abbrev pub first_place : ℕ → Callee → Insn → ℕ
  first_place n c x = word (place_in places (word n) + word (length (moves_of p shift c (args_of x))))

  abbrev pub copied_pieces : ℕ → Callee → Taken → ℕ → List Piece
  copied_pieces n c t first = copies_from shift t (place_in places (word (n + 1))) (place_in (inner_places first (is_some t) c.body.now.insns)) c.method.now (line_at m n) 0 c.body.now.insns

  -- moves of the arguments, and the copy
  abbrev pub call_pieces : ℕ → Callee → Insn → List Piece
  call_pieces n c x = moved_pieces n c x ++ copied_pieces n c (taken_by (slice_get insns (n + 1))) (first_place n c x)

  abbrev pub kept_pieces : ℕ → Insn → List Piece
  kept_pieces n x = if is_dropped chosen insns n then [] else piece_of m n (line_at m n) (kept_insn shift places x) ∷ []

  abbrev pub pieces_at : ℕ → Insn → Option Callee → List Piece
  pieces_at n x (Some c) = call_pieces n c x
  pieces_at n x None = kept_pieces n x

  abbrev pub pieces_from : ℕ → List Insn → List Piece
  pieces_from n [] = []
  pieces_from n (x ∷ xs) = pieces_at n x (chosen_at chosen n) ++ pieces_from (suc n) xs

-- no lines where there is none among them
abbrev pub lines_of : List ℕ → List ℕ
lines_of lines = if list_any (λ line. not (nat_eq line 0)) lines then lines else []

-- ---- the new body

abbrev pub places_in : Program → Body → List (Option Callee) → List ℕ
places_in p b chosen = places_of p chosen (greatest chosen) b.insns

abbrev pub pieces_of : Program → Method → Body → List (Option Callee) → List Piece
pieces_of p m b chosen = pieces_from p m b.insns chosen (greatest chosen) (places_in p b chosen) 0 b.insns

-- a region that covered a call covers all of its copy
abbrev pub body_spliced : Program → Method → Body → List (Option Callee) → Body
body_spliced p m b chosen = record {
  registers = shifted (greatest chosen) b.registers;
  ins = b.ins;
  insns = map (λ q. q.insn) (pieces_of p m b chosen);
  regions = map (region_moved (place_in (places_in p b chosen))) b.regions;
}

abbrev pub spliced : Program → Method → Body → List (Option Callee) → Spliced
spliced p m b chosen = record {
  body = body_spliced p m b chosen;
  lines = lines_of (map (λ q. q.line) (pieces_of p m b chosen));
  origins = map (λ q. q.origin) (pieces_of p m b chosen);
}
