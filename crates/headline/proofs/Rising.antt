-- What is left of a program that was read names, in its annotations, strings of the part of its table that was read.
use Rattle.std.proofs.Common.{◌≡◌, ◌<◌, ltb-true, ℕ, zero, suc, Bool, true, false, List, [], ◌∷◌, length, refl, sym, ap, subst, ◌∙◌, Option, Some, Ok}
use Rattle.std.specs.Prelude.{◌&&◌, not, is_ok, nat_lt, slice_get, slice_index, take}
use Rattle.std.specs.List.{AllByRecursion, list_all}
use Rattle.lemmas.proofs.Bools.{and_left, and_right}
use Rattle.lemmas.proofs.Options.{some_same}
use Rattle.program_model.specs.ProgramRules.{is_well_formed}
use Rattle.program_model.specs.TableRules.{type_fits, field_id_fits}
use Rattle.program_model.specs.Texts.{has_string, has_type, is_void, letter_of, string_text}
use Rattle.program_model.specs.declared.body.Body.{Body}
use Rattle.program_model.specs.declared.pools.FieldName.{FieldName}
use Rattle.program_model.specs.declared.value.Mark.{Mark}
use Rattle.program_model.specs.declared.program.Class.{Class}
use Rattle.program_model.specs.declared.program.Field.{Field}
use Rattle.program_model.specs.declared.program.Method.{Method}
use Rattle.program_model.specs.declared.program.Program.{Program}
use Rattle.pass_defs.specs.Typed.{IsTyped}
use Rattle.dalvik_defs.specs.Naming.{named}
use Rattle.dex_pools.specs.Finds.{Ascends}
use Rattle.dex_pools.specs.Order.{list_below, field_below}
use Rattle.dex_base.specs.Descriptor.{descriptor_of}
use Rattle.dex_read.specs.File.{program_at}
use Rattle.read_laws.proofs.Rising.{strings_rise}
use Rattle.read_laws.proofs.Told.{IsRead, is_read}
use Rattle.class_defs.proofs.WellFormed.{sound}
use Rattle.written_kept.specs.Rising.{FieldsAscend}
use Rattle.written_kept.proofs.Rising.{written_formed}
use Rattle.staticise.specs.Loosened.{marks_loosened}
use Rattle.static_kept.specs.Staying.{MethodStaysAlongBy, ClassStaysAlongBy, StaysAlongBy}
use Rattle.written_file.proofs.Fit.{Parts, parts_of, class_at_fits}
use Rattle.written_file.proofs.In.{all_in, in_got}
use Rattle.written_file.specs.Rises.{MarksLow, ClassLow, NamesRise}
use Rattle.written_file.proofs.Low.{class_low}
use Rattle.written_code.proofs.Whole.{written_is_valid}
use Rattle.written_kept.proofs.Written.{written_shows, written_typed}
use Rattle.class_defs.specs.ClassGraph.{IsTwice, IsAncestor}
use Rattle.dex_write.specs.Written as writer
use Rattle.dex_defs.specs.LaysOut.{LaysOut}
use Rattle.dex_defs.specs.Written.{written_by}
use Rattle.spelled_law.proofs.OnceFile.{spells_once}
use Rattle.spelled_law.proofs.Whole.{read_is_spelled}
use Rattle.bodies_kept.specs.Stays.{Stands, NoMoreRegisters, FewRegisters}
use Rattle.headline.specs.Headline.{StaysFor, IsSpelled}

stands_all : {X : Type 0} (P : X → Type 0) (xs : List X) → ((x : X) → Stands xs x → P x) → AllByRecursion P xs
stands_all P [] f = tt
stands_all P (x ∷ xs) f = (f x (zero, refl), stands_all P xs (λ y at. f y (suc at.0, at.1)))

of_all : {X : Type 0} (P : X → Type 0) (xs : List X) → AllByRecursion P xs → (x : X) → Stands xs x → P x
of_all P xs all x at = all_in P x xs all (in_got xs at.0 x at.1)

-- a list that has each entry of another at its place begins with it
front : (xs ys : List (List ℕ)) → ((n : ℕ) (t : List ℕ) → slice_get xs n ≡ Some t → slice_get ys n ≡ Some t) → take (length xs) ys ≡ xs
front [] [] f = refl
front [] (y ∷ ys) f = refl
front (x ∷ xs) [] f = let none : slice_get [] zero ≡ Some x = f zero x refl in absurd cc
front (x ∷ xs) (y ∷ ys) f =
    let same : y ≡ x = some_same y x (f zero x refl) in
    ap (λ (l : List (List ℕ)). y ∷ l) (front xs ys (λ n t e. f (suc n) t e)) ∙ ap (λ (z : List ℕ). z ∷ xs) same

loosened_low : (strings : ℕ) (mss : List (List Mark)) → AllByRecursion (MarksLow strings) mss → AllByRecursion (MarksLow strings) (marks_loosened mss)
loosened_low strings [] low = tt
loosened_low strings (ms ∷ mss) low = (tt, low)

module _ (registers_are : Option Body → Option Body → Type 0) (made : ℕ → Bool) (admitted : List Bool) (strings : ℕ) where
  abbrev MethodLow : Method → Type 0
  MethodLow m = MarksLow strings m.marks × AllByRecursion (MarksLow strings) m.parameter_marks

  method_low : (m n : Method) → MethodStaysAlongBy registers_are made admitted m n → MethodLow m → MethodLow n
  method_low m n s low = (subst (λ (x : Method). MarksLow strings x.marks) (sym s.rest) low.0, by (made m.name) refl)
    where
      by : (b : Bool) → made m.name ≡ b → AllByRecursion (MarksLow strings) n.parameter_marks
      by true e = subst (AllByRecursion (MarksLow strings)) (sym (s.turned e).1) (loosened_low strings m.parameter_marks low.1)
      by false e = subst (AllByRecursion (MarksLow strings)) (sym (s.plain e).1) low.1

  stays_low : (c d : Class) → ClassStaysAlongBy registers_are made admitted c d → ClassLow strings c → ClassLow strings d
  stays_low c d s low = record {
    own = subst (λ (x : Class). MarksLow strings x.marks) (sym s.rest) low.own;
    fields = stands_all (λ f. MarksLow strings f.marks) d.fields (λ f at. of_all (λ (x : Field). MarksLow strings x.marks) c.fields low.fields f (s.fields f at));
    methods = stands_all MethodLow d.methods (λ n at. let from = s.methods n at in method_low from.0 n from.1.1 (of_all MethodLow c.methods low.methods from.0 from.1.0));
  }

pub names_rise : (bytes : List ℕ) (p q : Program) (registers_are : Option Body → Option Body → Type 0) (admitted : List Bool) → program_at bytes ≡ Ok p → is_well_formed p ≡ true → StaysAlongBy registers_are admitted p q → NamesRise q
names_rise bytes p q registers_are admitted reads formed s =
    let parts : Parts p = parts_of p formed in record {
      strings = length p.strings;
      ascend = subst (λ (l : List (List ℕ)). Ascends list_below l) (sym (front p.strings q.strings s.strings)) (strings_rise bytes p reads);
      classes = stands_all (ClassLow (length p.strings)) q.classes (λ d at. let from = s.classes d at in stays_low registers_are s.made admitted (length p.strings) from.0 d from.1.1 (class_low p from.0 (class_at_fits p from.1.0.0 from.0 parts from.1.0.1)));
    }

pub names_rise_for : (inline : Bool) (bytes : List ℕ) (p q : Program) (admitted : List Bool) → program_at bytes ≡ Ok p → is_well_formed p ≡ true → StaysFor inline admitted p q → NamesRise q
names_rise_for false bytes p q admitted reads formed s = names_rise bytes p q NoMoreRegisters admitted reads formed s
names_rise_for true bytes p q admitted reads formed s = names_rise bytes p q FewRegisters admitted reads formed s

-- ---- fields in their order

each : {X : Type 0} (t : X → Bool) (P : X → Type 0) → ((x : X) → t x ≡ true → P x) → (xs : List X) → list_all t xs ≡ true → AllByRecursion P xs
each t P to [] h = tt
each t P to (x ∷ xs) h = (to x (and_left (t x) (list_all t xs) h), each t P to xs (and_right (t x) (list_all t xs) h))

type_low : (p : Program) (s : ℕ) → type_fits p s ≡ true → s < length p.strings
type_low p s h = ltb-true s (length p.strings) (and_left (has_string p s) (is_ok (descriptor_of (string_text p s))) h)

field_low : (p : Program) (f : FieldName) → field_id_fits p f ≡ true → f.name < length p.strings
field_low p f h =
    let b = has_string p f.name in
    let c = not (is_void (letter_of p f.kind)) in
    ltb-true f.name (length p.strings) (and_left b c (and_right (has_type p f.class && has_type p f.kind) (b && c) h))

types_ascend : (bytes : List ℕ) (p : Program) → program_at bytes ≡ Ok p → Ascends nat_lt p.types
types_ascend bytes p h =
    let r : IsRead bytes p = is_read bytes p h in
    subst (λ (q : Program). Ascends nat_lt q.types) (sym r.is) (subst (λ (t : Program). Ascends nat_lt t.types) (sym r.made) r.spells.types_ascend)

fields_in_order : (bytes : List ℕ) (p : Program) → program_at bytes ≡ Ok p → Ascends field_below p.fields
fields_in_order bytes p h =
    let r : IsRead bytes p = is_read bytes p h in
    subst (λ (q : Program). Ascends field_below q.fields) (sym r.is) (subst (λ (t : Program). Ascends field_below t.fields) (sym r.made) r.spells.fields_ascend)

fields_ascend : (bytes : List ℕ) (p q : Program) (registers_are : Option Body → Option Body → Type 0) (admitted : List Bool) → program_at bytes ≡ Ok p → is_well_formed p ≡ true → StaysAlongBy registers_are admitted p q → FieldsAscend q
fields_ascend bytes p q registers_are admitted reads formed s = record {
  strings = length p.strings;
  ascend = subst (λ (l : List (List ℕ)). Ascends list_below l) (sym (front p.strings q.strings s.strings)) (strings_rise bytes p reads);
  types = subst (λ (x : Program). Ascends nat_lt x.types) (sym s.rest) (types_ascend bytes p reads);
  fields = subst (λ (x : Program). Ascends field_below x.fields) (sym s.rest) (fields_in_order bytes p reads);
  of_types = subst (λ (x : Program). AllByRecursion (λ n. n < length p.strings) x.types) (sym s.rest) (each (type_fits p) (λ n. n < length p.strings) (type_low p) p.types (sound p formed).types_fit);
  of_fields = subst (λ (x : Program). AllByRecursion (λ (f : FieldName). f.name < length p.strings) x.fields) (sym s.rest) (each (field_id_fits p) (λ f. f.name < length p.strings) (field_low p) p.fields (sound p formed).fields_fit);
}

pub fields_ascend_for : (inline : Bool) (bytes : List ℕ) (p q : Program) (admitted : List Bool) → program_at bytes ≡ Ok p → is_well_formed p ≡ true → StaysFor inline admitted p q → FieldsAscend q
fields_ascend_for false bytes p q admitted reads formed s = fields_ascend bytes p q NoMoreRegisters admitted reads formed s
fields_ascend_for true bytes p q admitted reads formed s = fields_ascend bytes p q FewRegisters admitted reads formed s

-- what is written for a program in whose annotations names rise, and whose fields stand in order
pub is_spelled : (p : Program) (bytes : List ℕ) (w : writer.IsWritten p bytes) → is_well_formed p ≡ true → ((class : ℕ) → IsTwice p class → ⊥) → ((class : ℕ) → IsAncestor p class class → ⊥) → IsTyped (named p) → NamesRise p → FieldsAscend p → LaysOut (written_by w.interner p)
    → ((i : ℕ) → slice_index bytes i < 256) → IsSpelled p bytes
is_spelled p bytes w formed once grounded typed rise fields lays small = record {
  spelled = written_by w.interner p;
  is = record { interner = w.interner; used = w.interned; is = refl };
  valid = (written_is_valid p bytes w formed once grounded rise lays).valid;
  only = λ other spells. spells_once bytes other (written_by w.interner p) small spells (written_is_valid p bytes w formed once grounded rise lays).valid.spelled;
  again = λ other reads. spells_once bytes other (written_by w.interner p) small (read_is_spelled bytes other small reads) (written_is_valid p bytes w formed once grounded rise lays).valid.spelled;
  signed = w.sealed.signature;
  formed = written_formed p w.interner w.places formed once grounded w.interned w.ordered fields;
  typed = written_typed p w.interner w.places formed once grounded w.interned w.ordered typed;
  shows = written_shows p w.interner w.places formed once grounded w.interned w.ordered;
}
