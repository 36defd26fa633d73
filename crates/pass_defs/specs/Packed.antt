-- Bodies whose registers have the least numbers that they can have (Dalvik bytecode, "Instruction formats"; this
-- project's profile).
use Rattle.std.specs.Prelude.{◌≡◌, ℕ, suc, ◌-◌, ◌<◌, Bool, true, false, ◌&&◌, ◌||◌, not, nat_eq, List, [], ◌∷◌, ◌++◌, drop, Some, Contains}
use Rattle.std.specs.List.{list_any}
use Rattle.insn_set.specs.Registers.{in_operand}
use Rattle.insn_set.specs.Widths.{is_wide_slot, is_wide_item, compares_wide, unary_reads_wide, unary_writes_wide, binary_is_wide, second_is_wide}
use Rattle.insn_set.specs.Spelling.{fit_nibbles}
use Rattle.insn_set.specs.declared.ops.InvokeKind.{InvokeKind}
use Rattle.insn_set.specs.declared.ops.InvokeKind.TheVariants as call
use Rattle.dalvik_defs.specs.Names.{Text, is_wide}
use Rattle.dalvik_defs.specs.declared.names.MethodKey.{MethodKey}
use Rattle.dalvik_defs.specs.declared.forms.Form.{Form}
use Rattle.dalvik_defs.specs.declared.forms.Form.TheVariants as form
use Rattle.dalvik_defs.specs.declared.program.NamedBody.{NamedBody}
use Rattle.pass_defs.specs.Bare.{reads, writes}
use Rattle.pass_defs.specs.Walks.{form_at, onward, IsRead}

-- ---- wide operands

abbrev pub first_if : Bool → ℕ → List ℕ
first_if true r = r ∷ []
first_if false r = []

-- the first registers of wide arguments
abbrev pub wide_arguments : List Text → List ℕ → List ℕ
wide_arguments [] rs = []
wide_arguments (t ∷ ts) [] = []
wide_arguments (t ∷ ts) (r ∷ rs) = elim (is_wide t) [ true ↦ r ∷ wide_arguments ts (drop 1 rs) | false ↦ wide_arguments ts rs ]

abbrev pub wide_passed : InvokeKind → MethodKey → List ℕ → List ℕ
wide_passed call.Static k rs = wide_arguments k.signature.parameters rs
wide_passed kind k rs = wide_arguments (k.class ∷ k.signature.parameters) rs

-- the first registers of wide operands that a form writes
abbrev pub wides_written : Form → List ℕ
wides_written (form.Move slot to from) = first_if (is_wide_slot slot) to
wides_written (form.MoveResult slot to) = first_if (is_wide_slot slot) to
wides_written (form.ConstWide to value) = to ∷ []
wides_written (form.ArrayGet item to array index) = first_if (is_wide_item item) to
wides_written (form.InstanceGet item to on field) = first_if (is_wide_item item) to
wides_written (form.StaticGet item to field) = first_if (is_wide_item item) to
wides_written (form.Unary op to from) = first_if (unary_writes_wide op) to
wides_written (form.Binary op to a b) = first_if (binary_is_wide op) to
wides_written f = []

-- and of those that it reads
abbrev pub wides_read : Form → List ℕ
wides_read (form.Move slot to from) = first_if (is_wide_slot slot) from
wides_read (form.Return slot from) = first_if (is_wide_slot slot) from
wides_read (form.Cmp op to a b) = first_if (compares_wide op) a ++ first_if (compares_wide op) b
wides_read (form.ArrayPut item from array index) = first_if (is_wide_item item) from
wides_read (form.InstancePut item from on field) = first_if (is_wide_item item) from
wides_read (form.StaticPut item from field) = first_if (is_wide_item item) from
wides_read (form.Invoke kind method args) = wide_passed kind method args
wides_read (form.Unary op to from) = first_if (unary_reads_wide op) from
wides_read (form.Binary op to a b) = first_if (binary_is_wide op) a ++ first_if (second_is_wide op) b
wides_read f = []

abbrev pub wides_of : Form → List ℕ
wides_of f = wides_written f ++ wides_read f

-- ---- conflicts

pub record Clobbers (b : NamedBody) (r s : ℕ) : Type 0 where
  pub position : ℕ
  pub form : Form
  pub next : ℕ
  pub has_form : form_at b position ≡ Some form
  pub writes_it : writes form r ≡ true
  pub goes : Contains (onward form position) next
  pub read : IsRead b s next

-- Where one is written, a walk onward, not through the position's own handlers, reads the other before that is written;
-- or one position writes both.
pub data Conflict (b : NamedBody) (r s : ℕ) : Type 0 where
  First : Clobbers b r s → Conflict b r s
  Second : Clobbers b s r → Conflict b r s
  Both : (n : ℕ) (f : Form) → form_at b n ≡ Some f → (writes f r && writes f s) ≡ true → Conflict b r s

-- ---- packed bodies

abbrev pub uses : Form → ℕ → Bool
uses f r = reads f r || writes f r

abbrev pub is_used : NamedBody → ℕ → Bool
is_used b r = list_any (λ f. uses f r) b.forms

-- in a call that five nibbles can't spell
abbrev pub in_range_call : Form → ℕ → Bool
in_range_call (form.Invoke kind method args) r = not (fit_nibbles args) && list_any (nat_eq r) args
in_range_call (form.FilledNewArray kind args) r = not (fit_nibbles args) && list_any (nat_eq r) args
in_range_call f r = false

abbrev pub binds : Form → ℕ → Bool
binds f r = list_any (λ w. in_operand true w r) (wides_of f) || in_range_call f r

-- never half of a wide, and in no such call
abbrev pub is_free : NamedBody → ℕ → Bool
is_free b r = not (list_any (λ f. binds f r) b.forms)

-- how many registers are no arguments: these have the numbers below
abbrev pub locals : NamedBody → ℕ
locals b = b.registers - b.ins

-- Each plain register that is used conflicts with each lower number, and the greatest register that is no argument is
-- used.
pub record IsPacked (b : NamedBody) : Type 0 where
  pub least : (r s : ℕ) → r < locals b → (is_used b r && is_free b r) ≡ true → s < r → Conflict b r s
  pub greatest : (r : ℕ) → suc r ≡ locals b → is_used b r ≡ true
