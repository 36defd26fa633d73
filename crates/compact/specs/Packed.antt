-- Bodies whose registers have the least numbers that they can have (Dalvik bytecode, "Instruction formats"; this project's
-- profile). `w` are the widths of the arguments of all methods.
use Rattle.std.specs.Prelude.{◌≡◌, ℕ, suc, ◌<◌, Bool, true, false, ◌&&◌, ◌||◌, not, nat_eq, List, [], ◌++◌, Some, Contains}
use Rattle.std.specs.List.{list_any}
use Rattle.insn_set.specs.Registers.{in_operand, reads_of, writes_of}
use Rattle.insn_set.specs.Widths.{is_wide_slot, is_wide_item, unary_writes_wide, binary_is_wide}
use Rattle.insn_set.specs.Spelling.{fit_nibbles}
use Rattle.insn_set.specs.declared.form.Insn.{Insn}
use Rattle.insn_set.specs.declared.form.Insn.TheVariants.{Move, MoveResult, ConstWide, FilledNewArray, ArrayGet, InstanceGet, StaticGet, Invoke, Unary, Binary}
use Rattle.program_model.specs.declared.body.Body.{Body}
use Rattle.insn_regs.specs.Wides.{first_if, wides_read}
use Rattle.body_graph.specs.Walks.{insn_at, onward, IsRead}
pub use Rattle.register_criteria.specs.Locals.{locals}

-- ---- wide operands

-- the first registers of wide operands that an instruction writes
abbrev pub wides_written : Insn → List ℕ
wides_written (Move slot to from) = first_if (is_wide_slot slot) to
wides_written (MoveResult slot to) = first_if (is_wide_slot slot) to
wides_written (ConstWide to value) = first_if true to
wides_written (ArrayGet item to array index) = first_if (is_wide_item item) to
wides_written (InstanceGet item to on field) = first_if (is_wide_item item) to
wides_written (StaticGet item to field) = first_if (is_wide_item item) to
wides_written (Unary op to from) = first_if (unary_writes_wide op) to
wides_written (Binary op to a b) = first_if (binary_is_wide op) to
wides_written f = []

abbrev pub wides_of : List (List Bool) → Insn → List ℕ
wides_of w f = wides_written f ++ wides_read w f

-- ---- conflicts

pub record Clobbers (b : Body) (r s : ℕ) : Type 0 where
  pub position : ℕ
  pub form : Insn
  pub next : ℕ
  pub has_form : insn_at b position ≡ Some form
  pub writes_it : writes_of form r ≡ true
  pub goes : Contains (onward form position) next
  pub read : IsRead b s next

-- Where one is written, a walk onward, not through the position's own handlers, reads the other before that is written;
-- or one position writes both.
pub data Conflict (b : Body) (r s : ℕ) : Type 0 where
  First : Clobbers b r s → Conflict b r s
  Second : Clobbers b s r → Conflict b r s
  Both : (n : ℕ) (f : Insn) → insn_at b n ≡ Some f → (writes_of f r && writes_of f s) ≡ true → Conflict b r s

-- ---- packed bodies

abbrev pub uses : Insn → ℕ → Bool
uses f r = reads_of f r || writes_of f r

abbrev pub is_used : Body → ℕ → Bool
is_used b r = list_any (λ f. uses f r) b.insns

-- in a call that five nibbles can't spell
abbrev pub in_range_call : Insn → ℕ → Bool
in_range_call (Invoke kind method args) r = not (fit_nibbles args) && list_any (nat_eq r) args
in_range_call (FilledNewArray kind args) r = not (fit_nibbles args) && list_any (nat_eq r) args
in_range_call f r = false

abbrev pub binds : List (List Bool) → Insn → ℕ → Bool
binds w f r = list_any (λ at. in_operand true at r) (wides_of w f) || in_range_call f r

-- never half of a wide, and in no such call
abbrev pub is_free : List (List Bool) → Body → ℕ → Bool
is_free w b r = not (list_any (λ f. binds w f r) b.insns)

-- Each register that is used and never half of a wide, nor in such a call, conflicts with each lower number, and the
-- greatest register that is no argument is used.
pub record IsPacked (w : List (List Bool)) (b : Body) : Type 0 where
  pub least : (r s : ℕ) → r < locals b → (is_used b r && is_free w b r) ≡ true → s < r → Conflict b r s
  pub greatest : (r : ℕ) → suc r ≡ locals b → is_used b r ≡ true
