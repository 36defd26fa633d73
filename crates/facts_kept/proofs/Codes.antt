-- The forms of a well-formed program whose numbers have the bits that they are given are formed as those of a file.
use Rattle.std.proofs.Common.{◌≡◌, ℕ, zero, suc, ◌+◌, ◌-◌, ◌<◌, ◌≤◌, ◌^◌, Bool, true, false, List, [], ◌∷◌, length, Option, Some, None, refl, sym, ap, ◌∙◌, subst, leb-true, arith}
use Rattle.std.specs.Prelude.{◌&&◌, ◌||◌, not, nat_lt, nat_le, slice_get, Contains}
use Rattle.std.specs.List.{list_all, enumerate_from}
use Rattle.std.specs.Option.{option_map}
use Rattle.insn_set.specs.Spelling.{is_encodable, fit_call, fit_nibbles, are_adjacent}
use Rattle.insn_set.specs.declared.form.Insn.{Insn}
use Rattle.insn_set.specs.declared.form.Insn.TheVariants as insn
use Rattle.insn_set.specs.declared.ops.Item.{Item}
use Rattle.program_model.specs.BodyRules.{body_fits, ends, follows, insn_fits, is_caught, leaves, targets_fit}
use Rattle.program_model.specs.LineRules.{lines_fit}
use Rattle.program_model.specs.MemberRules.{class_of_method, code_fits, frame_fits, is_class_number, lacks_code, method_fits}
use Rattle.program_model.specs.Neighbours.{neighbours}
use Rattle.program_model.specs.OperandRules.{numbers_fit, registers_fit}
use Rattle.program_model.specs.RegionRules.{may_begin, regions_fit}
use Rattle.program_model.specs.ValueRules.{marks_fit}
use Rattle.program_model.specs.declared.body.Body.{Body}
use Rattle.program_model.specs.declared.program.Method.{Method}
use Rattle.program_model.specs.declared.program.Class.{Class}
use Rattle.program_model.specs.declared.program.Program.{Program}
use Rattle.class_defs.proofs.WellFormed.{and_left, and_right, below, Sound}
use Rattle.dalvik_defs.specs.Face.{bodies_of}
use Rattle.dalvik_defs.specs.Naming.{body_of, form_of, named, named_class, named_method}
use Rattle.dalvik_defs.specs.declared.forms.Form.{Form}
use Rattle.dalvik_defs.specs.declared.names.MethodKey.{MethodKey}
use Rattle.dalvik_defs.specs.declared.program.NamedBody.{NamedBody}
use Rattle.removal_law.proofs.CallsLeft.{body_in}
use Rattle.removal_law.proofs.Lists.{contained}
use Rattle.removal_bridge.proofs.Listed.{image, some_same, none_same, method_fits_at}
use Rattle.cover_law.specs.Coverable.{IsFormed}
use Rattle.premises.specs.Numbers.{AllHaveWords, HasWords}
use Rattle.facts_kept.proofs.Described.{field_values}
use Rattle.facts_kept.proofs.Small.{all_small, bits, small}

-- what is true of all entries with their places is true of each at some place
placed : {A : Type 0} (f : ℕ × A → Bool) (xs : List A) (k n : ℕ) (x : A) → list_all f (enumerate_from k xs) ≡ true → slice_get xs n ≡ Some x → (m : ℕ) × (f (m, x) ≡ true)
placed f [] k n x h e = none_same x e
placed f (y ∷ ys) k zero x h e = (k, subst (λ z. f (k, z) ≡ true) (some_same y x e) (and_left (f (k, y)) (list_all f (enumerate_from (k + 1) ys)) h))
placed f (y ∷ ys) k (suc n) x h e = placed f ys (k + 1) n x (and_right (f (k, y)) (list_all f (enumerate_from (k + 1) ys)) h) e

-- a call takes few registers
few_of_nibbles : (args : List ℕ) → fit_nibbles args ≡ true → length args ≤ 5
few_of_nibbles args h = leb-true (length args) 5 (and_left (nat_le (length args) 5) (list_all (λ r. nat_lt r 16) args) h)

few_args : (args : List ℕ) → fit_call args ≡ true → length args < 2 ^ 31
few_args args h = by (fit_nibbles args) refl h
  where
    by : (b : Bool) → fit_nibbles args ≡ b → (b || (nat_lt (length args) 256 && are_adjacent args)) ≡ true → length args < 2 ^ 31
    by true e h = let few = few_of_nibbles args e in omega (arith, few)
    by false e h = let few = below (length args) 256 (and_left (nat_lt (length args) 256) (are_adjacent args) h) in omega (arith, few)

module _ (p : Program) (s : Sound p) where
  -- ---- one instruction

  puts_field : (i : Item) (from on field : ℕ) → numbers_fit (insn.InstancePut i from on field) p ≡ true → field < length p.fields
  unfolding numbers_fit
  puts_field i from on field h = below field (length p.fields) h

  puts_static : (i : Item) (from field : ℕ) → numbers_fit (insn.StaticPut i from field) p ≡ true → field < length p.fields
  unfolding numbers_fit
  puts_static i from field h = below field (length p.fields) h

  formed_insn : (x : Insn) → is_encodable x ≡ true → numbers_fit x p ≡ true → HasWords x → IsFormed (form_of p x)
  formed_insn (insn.Const to value) e n w = bits value w
  formed_insn (insn.Literal op to a value) e n w = small value w
  formed_insn (insn.SparseSwitch on keys targets) e n w = all_small keys w
  formed_insn (insn.PackedSwitch on first targets) e n w = bits first w
  formed_insn (insn.FilledNewArray kind args) e n w = few_args args e
  formed_insn (insn.InstancePut i from on field) e n w = field_values p s field (puts_field i from on field n)
  formed_insn (insn.StaticPut i from field) e n w = field_values p s field (puts_static i from field n)
  formed_insn x e n w = tt

  insn_parts : (b : Body) (m : ℕ) (x : Insn) → insn_fits p b (m, x) ≡ true → (is_encodable x ≡ true) × (numbers_fit x p ≡ true)
  unfolding insn_fits
  insn_parts b m x h =
      let l = and_left (is_encodable x && (registers_fit x b.registers && numbers_fit x p)) (targets_fit b.insns x && (leaves m x && is_caught b.regions m x)) h in
      (and_left (is_encodable x) (registers_fit x b.registers && numbers_fit x p) l, and_right (registers_fit x b.registers) (numbers_fit x p) (and_right (is_encodable x) (registers_fit x b.registers && numbers_fit x p) l))

  -- ---- a body

  insns_fit : (b : Body) → body_fits p b ≡ true → list_all (insn_fits p b) (enumerate_from 0 b.insns) ≡ true
  unfolding body_fits
  insns_fit b h =
      and_left (list_all (insn_fits p b) (enumerate_from 0 b.insns)) (regions_fit p b.insns b.regions)
      (and_right (list_all follows (neighbours b.insns)) (list_all (insn_fits p b) (enumerate_from 0 b.insns) && regions_fit p b.insns b.regions)
      (and_right (may_begin (slice_get b.insns 0) && ends (slice_get b.insns (length b.insns - 1))) (list_all follows (neighbours b.insns) && (list_all (insn_fits p b) (enumerate_from 0 b.insns) && regions_fit p b.insns b.regions)) h))

  formed_at : (b : Body) → body_fits p b ≡ true → (n : ℕ) (x : Insn) → slice_get b.insns n ≡ Some x → HasWords x → IsFormed (form_of p x)
  formed_at b h n x e w =
      let at = placed (insn_fits p b) b.insns 0 n x (insns_fit b h) e in
      let parts = insn_parts b at.0 x at.1 in
      formed_insn x parts.0 parts.1 w

  method_code : (k : ℕ) (m : Method) → method_fits p k m ≡ true → code_fits p m m.body ≡ true
  unfolding method_fits
  method_code k m h = and_right (is_class_number (class_of_method (slice_get p.methods m.name)) k) (code_fits p m m.body)
      (and_left (is_class_number (class_of_method (slice_get p.methods m.name)) k && code_fits p m m.body) (marks_fit p m.marks && list_all (marks_fit p) m.parameter_marks) h)

  code_body : (m : Method) (b : Body) → code_fits p m (Some b) ≡ true → body_fits p b ≡ true
  code_body m b h =
      let rest = and_right (not (lacks_code m.flags)) (frame_fits p m b && (body_fits p b && lines_fit (length b.insns) m.lines)) h in
      and_left (body_fits p b) (lines_fit (length b.insns) m.lines) (and_right (frame_fits p m b) (body_fits p b && lines_fit (length b.insns) m.lines) rest)

  -- ---- the program

  body_at : (i j : ℕ) (c : Class) (m : Method) (b : Body) → slice_get p.classes i ≡ Some c → slice_get c.methods j ≡ Some m → m.body ≡ Some b → body_fits p b ≡ true
  body_at i j c m b e f h = code_body m b (subst (λ o. code_fits p m o ≡ true) h (method_code c.name m (method_fits_at p s i c e j m f)))

  -- what an instruction of the program names is an entry of its table
  pub numbers_at : (i j n : ℕ) (c : Class) (m : Method) (b : Body) (x : Insn) → slice_get p.classes i ≡ Some c → slice_get c.methods j ≡ Some m → m.body ≡ Some b → slice_get b.insns n ≡ Some x → numbers_fit x p ≡ true
  numbers_at i j n c m b x e f h g =
      let at = placed (insn_fits p b) b.insns 0 n x (insns_fit b (body_at i j c m b e f h)) g in
      (insn_parts b at.0 x at.1).1

  -- a body is that of its method
  bodied : (m : Method) (b : NamedBody) → (named_method p m).body ≡ Some b → (x : Body) × ((m.body ≡ Some x) × (body_of p x ≡ b))
  bodied m b e = by m.body refl e
    where
      by : (o : Option Body) → m.body ≡ o → option_map (body_of p) o ≡ Some b → (x : Body) × ((m.body ≡ Some x) × (body_of p x ≡ b))
      by None i j = none_same b j
      by (Some x) i j = (x, (i, some_same (body_of p x) b j))

  pub codes_formed : AllHaveWords p → (k : MethodKey) (b : NamedBody) (x : Form) → bodies_of (named p) k ≡ Some b → Contains b.forms x → IsFormed x
  codes_formed words k b x e i =
      let t = body_in (named p) k b e in
      let c = image (named_class p) p.classes t.class (contained t.class (named p).classes t.class_in) in
      let m = image (named_method p) c.entry.methods t.method (subst (λ c. Contains c.methods t.method) (sym c.is) (contained t.method t.class.methods t.method_in)) in
      let d = bodied m.entry b (ap (λ m. m.body) m.is ∙ t.body) in
      let f = image (form_of p) d.0.insns x (subst (λ b. Contains b.forms x) (sym d.1.1) i) in
      subst IsFormed f.is (formed_at d.0 (body_at c.place m.place c.entry m.entry d.0 c.is_entry m.is_entry d.1.0) f.place f.entry f.is_entry
      (words.insns c.place m.place f.place c.entry m.entry d.0 f.entry c.is_entry m.is_entry d.1.0 f.is_entry))
