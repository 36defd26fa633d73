-- The body of a caller with the bodies of some callees in place of the calls (Dalvik bytecode, "invoke-kind"; this
-- project's profile).
use Rattle.std.specs.Prelude.{ℕ, zero, suc, ◌+◌, ◌-◌, max, Bool, true, false, ◌&&◌, if◌then◌else◌, nat_eq, List, [], ◌∷◌, ◌++◌, map, drop, length, Option, Some, None, slice_index_or}
use Rattle.std.specs.List.{list_any}
use Rattle.std.specs.Option.{option_map}
use Rattle.insn_set.specs.declared.ops.Slot.{Slot}
use Rattle.insn_set.specs.declared.ops.Slot.TheVariants as slot
use Rattle.insn_set.specs.declared.ops.InvokeKind.TheVariants as call
use Rattle.dalvik_defs.specs.Names.{Text, is_wide, is_reference}
use Rattle.dalvik_defs.specs.Flags.{is_static}
use Rattle.dalvik_defs.specs.Find.{Search, Finds, finds_statically, defined_method}
use Rattle.dalvik_defs.specs.declared.names.MethodKey.{MethodKey}
use Rattle.dalvik_defs.specs.declared.forms.Form.{Form}
use Rattle.dalvik_defs.specs.declared.forms.Form.TheVariants as form
use Rattle.dalvik_defs.specs.declared.program.NamedHandler.{NamedHandler}
use Rattle.dalvik_defs.specs.declared.program.NamedRegion.{NamedRegion}
use Rattle.dalvik_defs.specs.declared.program.NamedBody.{NamedBody}
use Rattle.dalvik_defs.specs.declared.program.NamedMethod.{NamedMethod}
use Rattle.dalvik_defs.specs.declared.program.NamedProgram.{NamedProgram}
use Rattle.pass_defs.specs.Remade.{remade, retargeted}
use Rattle.pass_defs.specs.Walks.{form_at}

-- a method that a call finds, with its code and what is passed
pub record Callee : Type 0 where
  pub key : MethodKey
  pub method : NamedMethod
  pub body : NamedBody
  pub args : List ℕ

abbrev pub with_body : MethodKey → List ℕ → Option NamedMethod → Option Callee
with_body k args None = None
with_body k args (Some m) = option_map (λ b. record { key = k; method = m; body = b; args = args }) m.body

abbrev pub callee_found : NamedProgram → List ℕ → Search → Option Callee
callee_found p args (Finds g) = with_body g.key args (defined_method p g.key)
callee_found p args s = None

abbrev pub callee_of : NamedProgram → Option Form → Option Callee
callee_of p (Some (form.Invoke call.Static k args)) = callee_found p args (finds_statically p k)
callee_of p (Some (form.Invoke call.Direct k args)) = callee_found p args (finds_statically p k)
callee_of p f = None

-- The accepted positions of a caller are a list. Each is a site: behind another call that was listed, the MoveResult would be
-- dropped and nothing put in its place.
abbrev pub is_among : List ℕ → ℕ → Bool
is_among accepted n = list_any (nat_eq n) accepted

abbrev pub callee_at : NamedProgram → NamedBody → List ℕ → ℕ → Option Callee
callee_at p b accepted n = if is_among accepted n then callee_of p (form_at b n) else None

-- the greatest register count of the accepted callees
abbrev pub callee_registers : Option Callee → ℕ
callee_registers None = 0
callee_registers (Some c) = c.body.registers

abbrev pub greatest : NamedProgram → NamedBody → List ℕ → ℕ
greatest p b [] = 0
greatest p b (n ∷ ns) = max (callee_registers (callee_of p (form_at b n))) (greatest p b ns)

-- ---- the copy of a callee

-- the register of the caller's MoveResult behind a call
abbrev pub Taken : Type 0
Taken = Option (Slot × ℕ)

abbrev pub taken_by : Option Form → Taken
taken_by (Some (form.MoveResult slot to)) = Some (slot, to)
taken_by f = None

abbrev pub slot_of : Text → Slot
slot_of t = if is_wide t then slot.Wide else if is_reference t then slot.Object else slot.Word

abbrev pub passed_types : Callee → List Text
passed_types c = if is_static c.method.flags then c.method.signature.parameters else c.key.class ∷ c.method.signature.parameters

-- one Move for each receiver and parameter into the callee's argument registers
abbrev pub moves_to : ℕ → List Text → ℕ → List ℕ → List Form
moves_to k [] to rs = []
moves_to k (t ∷ ts) to [] = []
moves_to k (t ∷ ts) to (r ∷ rs) = form.Move (slot_of t) to (r + k) ∷ elim (is_wide t) [ true ↦ moves_to k ts (to + 2) (drop 1 rs) | false ↦ moves_to k ts (to + 1) rs ]

abbrev pub moves_of : ℕ → Callee → List Form
moves_of k c = moves_to k (passed_types c) (c.body.registers - c.body.ins) c.args

-- a Return becomes a Move and a Goto where the result is taken, any other form stays one
abbrev pub copy_size : Taken → Form → ℕ
copy_size (Some t) (form.Return slot from) = 2
copy_size t f = 1

-- how many forms the copies of the first ones are
abbrev pub copy_place : Taken → List Form → ℕ → ℕ
copy_place t fs zero = 0
copy_place t [] (suc n) = 0
copy_place t (f ∷ fs) (suc n) = copy_size t f + copy_place t fs n

abbrev pub copied : ℕ → Taken → ℕ → (ℕ → ℕ) → Form → List Form
copied k (Some t) end place (form.Return slot from) = form.Move t.0 (t.1 + k) from ∷ form.Goto end ∷ []
copied k None end place (form.Return slot from) = form.Goto end ∷ []
copied k t end place form.ReturnVoid = form.Goto end ∷ []
copied k t end place f = retargeted place f ∷ []

-- ---- the places of the caller's positions

abbrev pub callee_size : ℕ → Taken → Callee → ℕ
callee_size k t c = length (moves_of k c) + copy_place t c.body.forms (length c.body.forms)

abbrev pub is_taken : Taken → Bool
is_taken (Some t) = true
is_taken None = false

-- the MoveResult behind an accepted call is dropped
abbrev pub is_dropped : NamedBody → List ℕ → ℕ → Bool
is_dropped b accepted zero = false
is_dropped b accepted (suc n) = is_among accepted n && is_taken (taken_by (form_at b (suc n)))

abbrev pub size_of : ℕ → NamedBody → List ℕ → ℕ → Option Callee → ℕ
size_of k b accepted n (Some c) = callee_size k (taken_by (form_at b (n + 1))) c
size_of k b accepted n None = if is_dropped b accepted n then 0 else 1

abbrev pub place_of : NamedProgram → NamedBody → List ℕ → ℕ → ℕ
place_of p b accepted zero = 0
place_of p b accepted (suc n) = place_of p b accepted n + size_of (greatest p b accepted) b accepted n (callee_at p b accepted n)

-- ---- the new body

-- a new form, where it comes from, and its line, 0 for none
pub record Piece : Type 0 where
  pub form : Form
  pub method : MethodKey
  pub position : ℕ
  pub line : ℕ

abbrev pub line_at : NamedMethod → ℕ → ℕ
line_at m n = slice_index_or m.lines n 0

-- A copy has no line where its call has none, and that of the call where the callee has none.
abbrev pub copied_line : ℕ → ℕ → ℕ
copied_line outer zero = outer
copied_line outer (suc inner) = if nat_eq outer 0 then 0 else suc inner

module _ (p : NamedProgram) (key : MethodKey) (m : NamedMethod) (b : NamedBody) (accepted : List ℕ) where
  abbrev pub shift : ℕ
  shift = greatest p b accepted

  abbrev pub piece : ℕ → Form → Piece
  piece n f = record { form = f; method = key; position = n; line = line_at m n }

  abbrev pub copy_piece : Callee → ℕ → ℕ → Form → Piece
  copy_piece c n i f = record { form = f; method = c.key; position = i; line = copied_line (line_at m n) (line_at c.method i) }

  -- the copies from the i-th form of the callee on
  abbrev pub copies : Callee → ℕ → ℕ → ℕ → Taken → ℕ → List Form → List Piece
  copies c n first end t i [] = []
  copies c n first end t i (f ∷ fs) =
      map (copy_piece c n i) (copied shift t end (λ j. first + copy_place t c.body.forms j) f) ++ copies c n first end t (suc i) fs

  abbrev pub inlined_call : ℕ → Callee → List Piece
  inlined_call n c =
      map (piece n) (moves_of shift c)
      ++ copies c n (place_of p b accepted n + length (moves_of shift c)) (place_of p b accepted (n + 1)) (taken_by (form_at b (n + 1))) 0 c.body.forms

  abbrev pub kept_form : ℕ → Form → List Piece
  kept_form n f = if is_dropped b accepted n then [] else piece n (remade (λ r. r + shift) (λ r. r + shift) (place_of p b accepted) f) ∷ []

  abbrev pub pieces_at : ℕ → Form → Option Callee → List Piece
  pieces_at n f (Some c) = inlined_call n c
  pieces_at n f None = kept_form n f

  abbrev pub pieces_from : ℕ → List Form → List Piece
  pieces_from n [] = []
  pieces_from n (f ∷ fs) = pieces_at n f (callee_at p b accepted n) ++ pieces_from (suc n) fs

  abbrev pub pieces : List Piece
  pieces = pieces_from 0 b.forms

  abbrev pub placed_handler : NamedHandler → NamedHandler
  placed_handler h = record h { position = place_of p b accepted h.position }

  -- a region that covered a call covers all of its copy
  abbrev pub placed_region : NamedRegion → NamedRegion
  placed_region r = record {
    first = place_of p b accepted r.first;
    end = place_of p b accepted r.end;
    handlers = map placed_handler r.handlers;
    rest = option_map (place_of p b accepted) r.rest;
  }

  abbrev pub inlined : NamedBody
  inlined = record {
    registers = b.registers + shift;
    ins = b.ins;
    forms = map (λ q. q.form) pieces;
    regions = map placed_region b.regions;
  }

  abbrev pub inlined_lines : List ℕ
  inlined_lines = map (λ q. q.line) pieces
