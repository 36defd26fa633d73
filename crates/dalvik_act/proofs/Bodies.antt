-- The instructions of the bodies of a well-formed program.
use Rattle.std.proofs.Common.{◌≡◌, ℕ, zero, suc, ◌+◌, ◌<◌, ◌≤◌, Bool, true, false, List, [], ◌∷◌, ◌++◌, length, replicate, arith, ap, refl, sym, subst, ◌∙◌, length-append, ltb-true}
use Rattle.std.specs.Prelude.{ℤ, ◌||◌, nat_lt, ◌&&◌, ◌-◌, ◌^◌, not, Option, Some, None, nat_le, option_and_then, slice_get}
use Rattle.std.specs.List.{list_all, enumerate_from, sum_by}
use Rattle.insn_set.specs.declared.form.Insn.{Insn}
use Rattle.insn_set.specs.declared.form.Insn.TheVariants as insn
use Rattle.insn_set.specs.declared.ops.InvokeKind.{InvokeKind}
use Rattle.insn_set.specs.declared.ops.Item.{Item}
use Rattle.insn_set.specs.Spelling.{are_adjacent, fit_nibbles, is_encodable}
use Rattle.program_model.specs.BodyRules.{body_fits, ends, follows, insn_fits, is_caught, leaves, targets_fit}
use Rattle.program_model.specs.Distinct.{all_differ, own_method_key}
use Rattle.program_model.specs.LineRules.{lines_fit}
use Rattle.program_model.specs.MemberRules.{class_fits, class_of_method, code_fits, fields_fit, frame_fits, is_class_number, lacks_code, method_fits, methods_fit, methods_in_order, source_fits, types_of_class_fit}
use Rattle.program_model.specs.Neighbours.{neighbours}
use Rattle.program_model.specs.OperandRules.{numbers_fit, registers_fit}
use Rattle.program_model.specs.ProgramRules.{is_well_formed}
use Rattle.program_model.proofs.Formed.{formed}
use Rattle.program_model.specs.TableRules.{entries_differ, entries_fit, tables_are_short, tables_fit, texts_are_short}
use Rattle.std.proofs.lemmas.List.Sums.{sum_by-cons}
use Rattle.dalvik_defs.specs.Names.{Text}
use Rattle.dalvik_defs.specs.Naming.{text_at, type_at}
use Rattle.dalvik_lookups.specs.Views.{name_at, type_text, IsKind, IsType}
use Rattle.dalvik_lookups.specs.declared.types.Kind.{Kind}
use Rattle.program_model.specs.RegionRules.{may_begin, regions_fit}
use Rattle.program_model.specs.ValueRules.{marks_fit}
use Rattle.program_model.specs.declared.body.Body.{Body}
use Rattle.program_model.specs.declared.program.Class.{Class}
use Rattle.program_model.specs.declared.program.Method.{Method}
use Rattle.program_model.specs.declared.program.Program.{Program}
use Rattle.name_bridge.proofs.Tables.{Sound, all_at, and_left, and_right, entry_at, sound, type_string}
use Rattle.dalvik_lookups.specs.Tables.{IsRight}
use Rattle.dalvik_lookups.specs.declared.lookups.Lookups.{Lookups}
use Rattle.dalvik_state.specs.States.{IsFineKind, IsSoundFrame}
use Rattle.dalvik_state.specs.Views.{HasType}
use Rattle.dalvik_state.specs.declared.frame.Frame.{Frame}
use Rattle.dalvik_act.specs.Acted.{Fits, NamesArray, insn_of}
use Rattle.dalvik_act.specs.Acting.{IsPlaced, are_keys}

numbered : (test : ℕ × Insn → Bool) (xs : List Insn) (k i : ℕ) (x : Insn) → list_all test (enumerate_from k xs) ≡ true → slice_get xs i ≡ Some x → (j : ℕ) × (test (j, x) ≡ true)
numbered test [] k i x h e = absurd (cc)
numbered test (y ∷ ys) k zero x h e = let same : y ≡ x = cc in (k, ap (λ (z : Insn). test (k, z)) (sym same) ∙ and_left (test (k, y)) (list_all test (enumerate_from (k + 1) ys)) h)
numbered test (y ∷ ys) k (suc i) x h e = numbered test ys (k + 1) i x (and_right (test (k, y)) (list_all test (enumerate_from (k + 1) ys)) h) e

insn_parts : (p : Program) (b : Body) (j : ℕ) (x : Insn) → insn_fits p b (j, x) ≡ true → Fits p x
unfolding insn_fits
insn_parts p b j x h =
    let own = and_left (is_encodable x && (registers_fit x b.registers && numbers_fit x p)) (targets_fit b.insns x && (leaves j x && is_caught b.regions j x)) h in
    record {
      encodable = and_left (is_encodable x) (registers_fit x b.registers && numbers_fit x p) own;
      numbers = and_right (registers_fit x b.registers) (numbers_fit x p) (and_right (is_encodable x) (registers_fit x b.registers && numbers_fit x p) own);
    }

body_insns : (p : Program) (b : Body) → body_fits p b ≡ true → list_all (insn_fits p b) (enumerate_from 0 b.insns) ≡ true
unfolding body_fits
body_insns p b h =
    let rest = and_right (may_begin (slice_get b.insns 0) && ends (slice_get b.insns (length b.insns - 1))) (list_all follows (neighbours b.insns) && (list_all (insn_fits p b) (enumerate_from 0 b.insns) && regions_fit p b.insns b.regions)) h in
    and_left (list_all (insn_fits p b) (enumerate_from 0 b.insns)) (regions_fit p b.insns b.regions) (and_right (list_all follows (neighbours b.insns)) (list_all (insn_fits p b) (enumerate_from 0 b.insns) && regions_fit p b.insns b.regions) rest)

method_code : (p : Program) (class : ℕ) (m : Method) → method_fits p class m ≡ true → code_fits p m m.body ≡ true
unfolding method_fits
method_code p class m h =
    and_right (is_class_number (class_of_method (slice_get p.methods m.name)) class) (code_fits p m m.body)
    (and_left (is_class_number (class_of_method (slice_get p.methods m.name)) class && code_fits p m m.body) (marks_fit p m.marks && list_all (marks_fit p) m.parameter_marks) h)

code_body : (p : Program) (m : Method) (b : Body) → code_fits p m (Some b) ≡ true → body_fits p b ≡ true
code_body p m b h =
    let rest = and_right (not (lacks_code m.flags)) (frame_fits p m b && (body_fits p b && lines_fit (length b.insns) m.lines)) h in
    and_left (body_fits p b) (lines_fit (length b.insns) m.lines) (and_right (frame_fits p m b) (body_fits p b && lines_fit (length b.insns) m.lines) rest)

class_methods : (p : Program) (c : Class) → class_fits p c ≡ true → list_all (method_fits p c.name) c.methods ≡ true
unfolding class_fits methods_fit
class_methods p c h =
    let two = and_right (types_of_class_fit p c && (source_fits p c.source && marks_fit p c.marks)) (fields_fit p c.name c.fields && methods_fit p c.name c.methods) h in
    and_left (list_all (method_fits p c.name) c.methods) (list_all (methods_in_order p) (neighbours c.methods) && all_differ own_method_key c.methods) (and_right (fields_fit p c.name c.fields) (methods_fit p c.name c.methods) two)

-- an instruction of the body of a frame fits
pub frame_insn : (l : Lookups) → IsRight l → (size : ℕ) (f : Frame) (x : Insn) → IsSoundFrame l size f → insn_of f ≡ Some x → Fits l.program.now x
frame_insn l r size f x h e =
    let p = l.program.now in
    let there : slice_get h.class.methods f.at.place ≡ Some h.own = sym (ap (option_and_then (λ (c : Class). slice_get c.methods f.at.place)) h.within) ∙ h.found in
    let class = all_at (class_fits p) p.classes f.at.class h.class (sound p r.well).classes_fit h.within in
    let method = all_at (method_fits p h.class.name) h.class.methods f.at.place h.own (class_methods p h.class class) there in
    let code = sym (ap (code_fits p h.own) h.body) ∙ method_code p h.class.name h.own method in
    let at = numbered (insn_fits p f.body.now) f.body.now.insns 0 f.position x (body_insns p f.body.now (code_body p h.own f.body.now code)) e in
    insn_parts p f.body.now at.0 x at.1

-- ---- what an instruction names

-- a number that is tested to be below
under : (a b : ℕ) → nat_lt a b ≡ true → a < b
under a b h = ltb-true a b h

pub cast_type : (p : Program) (on kind : ℕ) → Fits p (insn.CheckCast on kind) → kind < length p.types
unfolding numbers_fit
cast_type p on kind f = under kind (length p.types) f.numbers

pub test_type : (p : Program) (to from kind : ℕ) → Fits p (insn.InstanceOf to from kind) → kind < length p.types
unfolding numbers_fit
test_type p to from kind f = under kind (length p.types) f.numbers

pub string_there : (p : Program) (to string : ℕ) → Fits p (insn.ConstString to string) → string < length p.strings
unfolding numbers_fit
string_there p to string f = under string (length p.strings) f.numbers

pub class_there : (p : Program) (to kind : ℕ) → Fits p (insn.ConstClass to kind) → kind < length p.types
unfolding numbers_fit
class_there p to kind f = under kind (length p.types) f.numbers

pub array_type : (p : Program) (to size kind : ℕ) → Fits p (insn.NewArray to size kind) → kind < length p.types
unfolding numbers_fit
array_type p to size kind f = under kind (length p.types) f.numbers

pub filled_type : (p : Program) (kind : ℕ) (args : List ℕ) → Fits p (insn.FilledNewArray kind args) → kind < length p.types
unfolding numbers_fit
filled_type p kind args f = under kind (length p.types) f.numbers

pub made_type : (p : Program) (to kind : ℕ) → Fits p (insn.NewInstance to kind) → kind < length p.types
unfolding numbers_fit
made_type p to kind f = under kind (length p.types) f.numbers

pub called : (p : Program) (kind : InvokeKind) (method : ℕ) (args : List ℕ) → Fits p (insn.Invoke kind method args) → method < length p.methods
unfolding numbers_fit
called p kind method args f = under method (length p.methods) f.numbers

pub got_field : (p : Program) (i : Item) (to on field : ℕ) → Fits p (insn.InstanceGet i to on field) → field < length p.fields
unfolding numbers_fit
got_field p i to on field f = under field (length p.fields) f.numbers

pub put_field : (p : Program) (i : Item) (from on field : ℕ) → Fits p (insn.InstancePut i from on field) → field < length p.fields
unfolding numbers_fit
put_field p i from on field f = under field (length p.fields) f.numbers

pub got_static : (p : Program) (i : Item) (to field : ℕ) → Fits p (insn.StaticGet i to field) → field < length p.fields
unfolding numbers_fit
got_static p i to field f = under field (length p.fields) f.numbers

pub put_static : (p : Program) (i : Item) (from field : ℕ) → Fits p (insn.StaticPut i from field) → field < length p.fields
unfolding numbers_fit
put_static p i from field f = under field (length p.fields) f.numbers

at_most : (a b : ℕ) → nat_le a b ≡ true → a ≤ b
at_most a b h = grind (arith)

-- a call or a filled array has at most so many registers
pub filled_short : (p : Program) (kind : ℕ) (args : List ℕ) → Fits p (insn.FilledNewArray kind args) → length args < 2 ^ 32
filled_short p kind args f = by_shape (fit_nibbles args) refl
  where
    by_shape : (b : Bool) → fit_nibbles args ≡ b → length args < 2 ^ 32
    by_shape true h = let low = at_most (length args) 5 (and_left (nat_le (length args) 5) (list_all (λ (r : ℕ). nat_lt r 16) args) h) in omega (arith, low)
    by_shape false h =
        let all : fit_nibbles args || (nat_lt (length args) 256 && are_adjacent args) ≡ true = f.encodable in
        let rest : (nat_lt (length args) 256 && are_adjacent args) ≡ true = sym (ap (λ (b : Bool). b || (nat_lt (length args) 256 && are_adjacent args)) h) ∙ all in
        let low = ltb-true (length args) 256 (and_left (nat_lt (length args) 256) (are_adjacent args) rest) in
        omega (arith, low)

-- a switch has ascending keys, with a target for each
pub switch_keys : (p : Program) (on : ℕ) (keys : List ℤ) (targets : List ℕ) → Fits p (insn.SparseSwitch on keys targets) → are_keys keys targets ≡ true
switch_keys p on keys targets f =
    and_right (nat_lt (length targets) 65536) (are_keys keys targets) (and_right (nat_lt on 256) (nat_lt (length targets) 65536 && are_keys keys targets) f.encodable)

-- ---- what the groups of instructions ask

-- a type has a descriptor
has_type_of : (p : Program) → Sound p → (kind : ℕ) → kind < length p.types → HasType p kind
has_type_of p s kind h = let e = entry_at p.types kind h in record { text = e.0; is = e.1; there = type_string p s kind e.0 e.1 }

pub placed_of : (p : Program) → Sound p → (x : Insn) → Fits p x → NamesArray p x → IsPlaced p x
placed_of p s (insn.ConstString to string) fit names = string_there p to string fit
placed_of p s (insn.ConstClass to kind) fit names = has_type_of p s kind (class_there p to kind fit)
placed_of p s (insn.NewArray to size kind) fit names = (array_type p to size kind fit, names)
placed_of p s (insn.FilledNewArray kind args) fit names = (filled_type p kind args fit, names)
placed_of p s insn.Nop fit names = tt
placed_of p s (insn.Move slot to from) fit names = tt
placed_of p s (insn.MoveResult slot to) fit names = tt
placed_of p s (insn.MoveException to) fit names = tt
placed_of p s insn.ReturnVoid fit names = tt
placed_of p s (insn.Return slot from) fit names = tt
placed_of p s (insn.Const to value) fit names = tt
placed_of p s (insn.ConstWide to value) fit names = tt
placed_of p s (insn.MonitorEnter on) fit names = tt
placed_of p s (insn.MonitorExit on) fit names = tt
placed_of p s (insn.CheckCast on kind) fit names = tt
placed_of p s (insn.InstanceOf to from kind) fit names = tt
placed_of p s (insn.ArrayLength to from) fit names = tt
placed_of p s (insn.NewInstance to kind) fit names = tt
placed_of p s (insn.FillArray on width items) fit names = tt
placed_of p s (insn.Throw on) fit names = tt
placed_of p s (insn.Goto target) fit names = tt
placed_of p s (insn.PackedSwitch on first targets) fit names = tt
placed_of p s (insn.SparseSwitch on keys targets) fit names = tt
placed_of p s (insn.Cmp op to a b) fit names = tt
placed_of p s (insn.If test a b target) fit names = tt
placed_of p s (insn.IfZero test a target) fit names = tt
placed_of p s (insn.ArrayGet item to array index) fit names = tt
placed_of p s (insn.ArrayPut item from array index) fit names = tt
placed_of p s (insn.InstanceGet item to on field) fit names = tt
placed_of p s (insn.InstancePut item from on field) fit names = tt
placed_of p s (insn.StaticGet item to field) fit names = tt
placed_of p s (insn.StaticPut item from field) fit names = tt
placed_of p s (insn.Invoke kind method args) fit names = tt
placed_of p s (insn.Unary op to from) fit names = tt
placed_of p s (insn.Binary op to a b) fit names = tt
placed_of p s (insn.Literal op to a value) fit names = tt

-- ---- types of a well-formed program are not too deep

text_low : (xs : List Text) (i : ℕ) (x : Text) → slice_get xs i ≡ Some x → length x ≤ sum_by length xs
text_low [] i x e = absurd (cc)
text_low (y ∷ ys) zero x e =
    let same : y ≡ x = cc in
    let long : length y ≡ length x = ap length same in
    let all = sum_by-cons length y ys in
    omega (arith, long, all)
text_low (y ∷ ys) (suc i) x e =
    let low = text_low ys i x e in
    let all = sum_by-cons length y ys in
    omega (arith, low, all)

texts_short : (p : Program) → is_well_formed p ≡ true → sum_by length p.strings ≤ 16777216
unfolding tables_fit texts_are_short
texts_short p h =
    let short = and_left (tables_are_short p && texts_are_short p) (entries_fit p && entries_differ p) (formed p h).tables in
    at_most (sum_by length p.strings) 16777216 (and_right (tables_are_short p) (texts_are_short p) short)

text_short : (p : Program) → is_well_formed p ≡ true → (n : ℕ) → length (text_at p n) ≤ 16777216
text_short p h n = by_entry (slice_get p.strings n) refl
  where
    by_entry : (o : Option Text) → slice_get p.strings n ≡ o → length (elim o as (λ o. Text) [ Some t ↦ t | None ↦ [] ]) ≤ 16777216
    by_entry None e = omega arith
    by_entry (Some t) e = let low = text_low p.strings n t e in let all = texts_short p h in omega (arith, low, all)

type_short : (p : Program) → is_well_formed p ≡ true → (n : ℕ) → length (type_at p n) ≤ 16777216
type_short p h n = by_entry (slice_get p.types n)
  where
    by_entry : (o : Option ℕ) → length (elim o as (λ o. Text) [ Some t ↦ text_at p t | None ↦ [] ]) ≤ 16777216
    by_entry None = omega arith
    by_entry (Some t) = text_short p h t

brackets : (d : ℕ) (t : Text) → length (replicate d 91 ++ t) ≡ d + length t
brackets zero t = omega arith
brackets (suc d) t = ap suc (brackets d t) ∙ (let e : suc (d + length t) ≡ suc d + length t = omega arith in e)

-- the type of a type number, and that of its items
pub kind_fine : (l : Lookups) → IsRight l → (kind : ℕ) (k : Kind) → IsType l.types k (type_at l.program.now kind) → IsFineKind l k
kind_fine l r kind k is =
    let short = type_short l.program.now r.well kind in
    let long = brackets k.depth (name_at l.types k.base) in
    let same : length (type_text l.types k) ≡ length (type_at l.program.now kind) = ap length is.text in
    record { there = is.kind; deep = omega (arith, short, long, same) }

pub item_fine : (l : Lookups) (k item : Kind) → IsFineKind l k → item.depth ≡ k.depth - 1 → IsKind l.types item → IsFineKind l item
item_fine l k item f d is = let low = f.deep in record { there = is; deep = omega (arith, low, d) }
