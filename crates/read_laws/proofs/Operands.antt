-- The registers and the numbers of the instructions that were read are in range.
use Rattle.std.proofs.Common.{◌≡◌, ℕ, zero, suc, ◌≤◌, Bool, true, false, List, [], ◌∷◌, length, refl, sym, ap, subst, ◌∙◌, arith}
use Rattle.std.proofs.lemmas.Bool.{ltb-true, lt-ltb}
use Rattle.std.specs.Prelude.{◌&&◌, nat_lt, slice_get, Some, Ok}
use Rattle.std.specs.List.{list_all}
use Rattle.lemmas.proofs.Bools.{and_both, and_left, and_right}
use Rattle.lemmas.proofs.Options.{none_some, some_same}
use Rattle.insn_set.specs.declared.form.Insn.{Insn}
use Rattle.insn_set.specs.declared.form.Insn.TheVariants.{Move, MoveResult, Return, ConstWide, ConstString, ConstClass, CheckCast, InstanceOf, NewInstance, NewArray, FilledNewArray, Cmp, ArrayGet, ArrayPut, InstanceGet, InstancePut, StaticGet, StaticPut, Invoke, Unary, Binary}
use Rattle.insn_set.specs.Widths.{is_wide_slot, is_wide_item, compares_wide, unary_reads_wide, unary_writes_wide, binary_is_wide, second_is_wide}
use Rattle.program_model.specs.OperandRules as rule
use Rattle.program_model.specs.declared.program.Program.{Program}
use Rattle.code_read.specs.declared.sizes.Sizes.{Sizes}
use Rattle.code_read.specs.Checks as read
use Rattle.code_read.specs.Decoded.{insn_at, checked_at, insns_from, insns_of}
use Rattle.code_read.specs.Sweep.{Places}
use Rattle.read_laws.specs.Tables.{AreWithin}
use Rattle.read_laws.proofs.BodyLists.{Found, weaker, done, as_read, when, next}

-- ---- what the checks of the reader ask, the rules do

same_room : (wide : Bool) (r n : ℕ) → read.has_room wide r n ≡ rule.has_room wide r n
same_room true r n = refl
same_room false r n = refl

two : (a b c d : Bool) → a ≡ c → b ≡ d → (a && b) ≡ (c && d)
two a b c d e f = ap (λ (x : Bool). x && b) e ∙ ap (λ (x : Bool). c && x) f

same_registers : (insn : Insn) (n : ℕ) → read.registers_inside insn n ≡ rule.registers_fit insn n
unfolding rule.registers_fit
same_registers (Move slot to from) n = two (read.has_room (is_wide_slot slot) to n) (read.has_room (is_wide_slot slot) from n) (rule.has_room (is_wide_slot slot) to n) (rule.has_room (is_wide_slot slot) from n) (same_room (is_wide_slot slot) to n) (same_room (is_wide_slot slot) from n)
same_registers (MoveResult slot to) n = same_room (is_wide_slot slot) to n
same_registers (Return slot from) n = same_room (is_wide_slot slot) from n
same_registers (ConstWide to value) n = same_room true to n
same_registers (Cmp op to a b) n = two (nat_lt to n) ((read.has_room (compares_wide op) a n) && (read.has_room (compares_wide op) b n)) (nat_lt to n) ((rule.has_room (compares_wide op) a n) && (rule.has_room (compares_wide op) b n)) refl (two (read.has_room (compares_wide op) a n) (read.has_room (compares_wide op) b n) (rule.has_room (compares_wide op) a n) (rule.has_room (compares_wide op) b n) (same_room (compares_wide op) a n) (same_room (compares_wide op) b n))
same_registers (ArrayGet item to array index) n = two (read.has_room (is_wide_item item) to n) ((nat_lt array n) && (nat_lt index n)) (rule.has_room (is_wide_item item) to n) ((nat_lt array n) && (nat_lt index n)) (same_room (is_wide_item item) to n) refl
same_registers (ArrayPut item from array index) n = two (read.has_room (is_wide_item item) from n) ((nat_lt array n) && (nat_lt index n)) (rule.has_room (is_wide_item item) from n) ((nat_lt array n) && (nat_lt index n)) (same_room (is_wide_item item) from n) refl
same_registers (InstanceGet item to on field) n = two (read.has_room (is_wide_item item) to n) (nat_lt on n) (rule.has_room (is_wide_item item) to n) (nat_lt on n) (same_room (is_wide_item item) to n) refl
same_registers (InstancePut item from on field) n = two (read.has_room (is_wide_item item) from n) (nat_lt on n) (rule.has_room (is_wide_item item) from n) (nat_lt on n) (same_room (is_wide_item item) from n) refl
same_registers (StaticGet item to field) n = same_room (is_wide_item item) to n
same_registers (StaticPut item from field) n = same_room (is_wide_item item) from n
same_registers (Unary op to from) n = two (read.has_room (unary_writes_wide op) to n) (read.has_room (unary_reads_wide op) from n) (rule.has_room (unary_writes_wide op) to n) (rule.has_room (unary_reads_wide op) from n) (same_room (unary_writes_wide op) to n) (same_room (unary_reads_wide op) from n)
same_registers (Binary op to a b) n = two (read.has_room (binary_is_wide op) to n) ((read.has_room (binary_is_wide op) a n) && (read.has_room (second_is_wide op) b n)) (rule.has_room (binary_is_wide op) to n) ((rule.has_room (binary_is_wide op) a n) && (rule.has_room (second_is_wide op) b n)) (same_room (binary_is_wide op) to n) (two (read.has_room (binary_is_wide op) a n) (read.has_room (second_is_wide op) b n) (rule.has_room (binary_is_wide op) a n) (rule.has_room (second_is_wide op) b n) (same_room (binary_is_wide op) a n) (same_room (second_is_wide op) b n))
same_registers insn n = refl

pub below_more : (n low high : ℕ) → low ≤ high → nat_lt n low ≡ true → nat_lt n high ≡ true
below_more n low high le h = lt-ltb n high (omega (arith, le, ltb-true n low h))

numbers_named : (p : Program) (sizes : Sizes) → AreWithin p sizes → (insn : Insn) → read.numbers_inside insn sizes ≡ true → rule.numbers_fit insn p ≡ true
unfolding rule.numbers_fit
numbers_named p sizes is (ConstString to string) = below_more string sizes.strings (length p.strings) is.strings
numbers_named p sizes is (ConstClass to kind) = below_more kind sizes.types (length p.types) is.types
numbers_named p sizes is (CheckCast on kind) = below_more kind sizes.types (length p.types) is.types
numbers_named p sizes is (InstanceOf to from kind) = below_more kind sizes.types (length p.types) is.types
numbers_named p sizes is (NewInstance to kind) = below_more kind sizes.types (length p.types) is.types
numbers_named p sizes is (NewArray to size kind) = below_more kind sizes.types (length p.types) is.types
numbers_named p sizes is (FilledNewArray kind args) = below_more kind sizes.types (length p.types) is.types
numbers_named p sizes is (InstanceGet item to on field) = below_more field sizes.fields (length p.fields) is.fields
numbers_named p sizes is (InstancePut item from on field) = below_more field sizes.fields (length p.fields) is.fields
numbers_named p sizes is (StaticGet item to field) = below_more field sizes.fields (length p.fields) is.fields
numbers_named p sizes is (StaticPut item from field) = below_more field sizes.fields (length p.fields) is.fields
numbers_named p sizes is (Invoke kind method args) = below_more method sizes.methods (length p.methods) is.methods
numbers_named p sizes is insn = λ h. refl

-- ---- each instruction that was read passed them

checked : (places : Places) (sizes : Sizes) (start : ℕ) → Found (λ insn. (insn_at places start ≡ Ok insn) × (read.operands_inside sizes insn ≡ true)) (checked_at places sizes start)
unfolding checked_at
checked places sizes start = weaker (checked_at places sizes start)
    (next (as_read (insn_at places start)) (λ insn _. when _ (done insn)))
    (λ y p. (p.1 ∙ ap (λ (i : Insn). Ok i) p.2.1, subst (λ (i : Insn). read.operands_inside sizes i ≡ true) p.2.1 p.2.0))

-- the instructions of starts, one by one
abbrev pub AreRead : Places → Sizes → List ℕ → List Insn → Type 0
AreRead places sizes [] [] = Unit {0}
AreRead places sizes [] (i ∷ is) = ⊥
AreRead places sizes (s ∷ ss) [] = ⊥
AreRead places sizes (s ∷ ss) (i ∷ is) = ((insn_at places s ≡ Ok i) × (read.operands_inside sizes i ≡ true)) × AreRead places sizes ss is

pub are_read : (places : Places) (sizes : Sizes) (starts : List ℕ) → Found (AreRead places sizes starts) (insns_from places sizes starts)
are_read places sizes [] = weaker (Ok []) (done []) (λ y p. subst (AreRead places sizes []) p tt)
are_read places sizes (s ∷ ss) = weaker (insns_from places sizes (s ∷ ss))
    (next (checked places sizes s) (λ insn _. next (are_read places sizes ss) (λ insns _. done (insn ∷ insns))))
    (λ y q. subst (AreRead places sizes (s ∷ ss)) q.2.2 (q.1, q.2.1))

pub as_many : (places : Places) (sizes : Sizes) (starts : List ℕ) (insns : List Insn) → AreRead places sizes starts insns → length starts ≡ length insns
as_many places sizes [] [] h = refl
as_many places sizes [] (i ∷ is) h = absurd h
as_many places sizes (s ∷ ss) [] h = absurd h
as_many places sizes (s ∷ ss) (i ∷ is) h = ap suc (as_many places sizes ss is h.1)

-- the start of an instruction, from which it was read
pub start_of : (places : Places) (sizes : Sizes) (starts : List ℕ) (insns : List Insn) → AreRead places sizes starts insns → (k : ℕ) (i : Insn) → slice_get insns k ≡ Some i → (s : ℕ) × (slice_get starts k ≡ Some s) × (insn_at places s ≡ Ok i)
start_of places sizes [] [] h k i e = none_some i e
start_of places sizes [] (j ∷ js) h k i e = absurd h
start_of places sizes (s ∷ ss) [] h k i e = absurd h
start_of places sizes (s ∷ ss) (j ∷ js) h zero i e = (s, refl, h.0.0 ∙ ap (λ (x : Insn). Ok x) (some_same j i e))
start_of places sizes (s ∷ ss) (j ∷ js) h (suc k) i e = start_of places sizes ss js h.1 k i e

all_inside : (places : Places) (sizes : Sizes) (starts : List ℕ) (insns : List Insn) → AreRead places sizes starts insns → list_all (read.operands_inside sizes) insns ≡ true
all_inside places sizes [] [] h = refl
all_inside places sizes [] (i ∷ is) h = absurd h
all_inside places sizes (s ∷ ss) [] h = absurd h
all_inside places sizes (s ∷ ss) (i ∷ is) h = and_both (read.operands_inside sizes i) (list_all (read.operands_inside sizes) is) h.0.1 (all_inside places sizes ss is h.1)

pub operands_fit : (p : Program) (sizes : Sizes) → AreWithin p sizes → (insn : Insn) → read.operands_inside sizes insn ≡ true → (rule.registers_fit insn sizes.registers && rule.numbers_fit insn p) ≡ true
operands_fit p sizes is insn h = and_both (rule.registers_fit insn sizes.registers) (rule.numbers_fit insn p)
    (sym (same_registers insn sizes.registers) ∙ and_left (read.registers_inside insn sizes.registers) (read.numbers_inside insn sizes) h)
    (numbers_named p sizes is insn (and_right (read.registers_inside insn sizes.registers) (read.numbers_inside insn sizes) h))

pub each_inside : (places : Places) (sizes : Sizes) (insns : List Insn) → insns_of places sizes ≡ Ok insns → list_all (read.operands_inside sizes) insns ≡ true
each_inside places sizes insns h = all_inside places sizes places.starts insns ((are_read places sizes places.starts).found insns h)
