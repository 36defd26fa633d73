-- What the code of a well-formed program keeps to.
use Rattle.std.proofs.Common.{◌≡◌, ℕ, zero, suc, ◌+◌, ◌-◌, ◌*◌, ◌<◌, ◌≤◌, true, true≢false, List, [], ◌∷◌, length, Option, Some, None, inl, inr, refl, sym, ap, ◌∙◌, subst, arith, leb-true}
use Rattle.std.proofs.lemmas.List.Sums.{sum_by-cons}
use Rattle.std.specs.Prelude.{◌&&◌, not, slice_get, sum_by}
use Rattle.std.specs.List.{list_all, enumerate_from}
use Rattle.std.proofs.lemmas.Bool.{cases_lt}
use Rattle.class_defs.proofs.WellFormed.{and_left, and_right, all_at, Sound}
use Rattle.insn_set.specs.Flow.{goes_on}
use Rattle.insn_set.specs.Spelling.{is_encodable}
use Rattle.insn_set.specs.declared.form.Insn.{Insn}
use Rattle.program_model.specs.BodyRules.{ends, may_enter, targets_fit, leaves, is_caught, follows, insn_fits, body_fits}
use Rattle.program_model.specs.Cells.{body_cells, method_cells, class_cells, cells_of}
use Rattle.program_model.specs.LineRules.{lines_fit}
use Rattle.program_model.specs.MemberRules.{class_fits, types_of_class_fit, fields_fit, methods_fit, method_fits, code_fits, frame_fits, lacks_code, is_class_number, class_of_method}
use Rattle.program_model.specs.Neighbours.{neighbours}
use Rattle.program_model.specs.OperandRules.{registers_fit, numbers_fit}
use Rattle.program_model.specs.ProgramRules.{is_well_formed}
use Rattle.program_model.proofs.Formed.{formed}
use Rattle.program_model.specs.RegionRules.{may_begin, region_fits, are_apart, regions_fit}
use Rattle.program_model.specs.declared.body.Body.{Body}
use Rattle.program_model.specs.declared.body.Region.{Region}
use Rattle.program_model.specs.declared.program.Class.{Class}
use Rattle.program_model.specs.declared.program.Method.{Method}
use Rattle.program_model.specs.declared.program.Program.{Program}

pub record IsCode (p : Program) (m : Method) (b : Body) : Type 0 where
  pub some : 0 < length b.insns
  pub numbers : (n : ℕ) (i : Insn) → slice_get b.insns n ≡ Some i → numbers_fit i p ≡ true
  pub targets : (n : ℕ) (i : Insn) → slice_get b.insns n ≡ Some i → targets_fit b.insns i ≡ true
  pub ends : ends (slice_get b.insns (length b.insns - 1)) ≡ true
  pub regions : list_all (region_fits p b.insns) b.regions ≡ true
  pub frame : frame_fits p m b ≡ true
  pub few : b.registers ≤ 67108864

enumerated : {X : Type 0} (xs : List X) (k n : ℕ) (x : X) → slice_get xs n ≡ Some x → slice_get (enumerate_from k xs) n ≡ Some (k + n, x)
enumerated [] k n x e = cc
enumerated {X} (y ∷ ys) k zero x e = let s : y ≡ x = cc in ap (λ z. Some (z, y)) (omega arith) ∙ ap (λ z. Some (k + 0, z)) s
enumerated (y ∷ ys) k (suc n) x e = enumerated ys (k + 1) n x e ∙ ap (λ z. Some (z, x)) (omega arith)

zero_more : (n : ℕ) → 0 + n ≡ n
zero_more n = omega arith

all_regions : (p : Program) (insns : List Insn) (rs : List Region) → regions_fit p insns rs ≡ true → list_all (region_fits p insns) rs ≡ true
unfolding regions_fit
all_regions p insns rs h = and_left (list_all (region_fits p insns) rs) (list_all are_apart (neighbours rs)) h

numbers_of : (p : Program) (b : Body) (n : ℕ) (i : Insn) → insn_fits p b (n, i) ≡ true → (numbers_fit i p ≡ true) × (targets_fit b.insns i ≡ true)
unfolding insn_fits
numbers_of p b n i h =
    let l = and_left (is_encodable i && (registers_fit i b.registers && numbers_fit i p)) (targets_fit b.insns i && (leaves n i && is_caught b.regions n i)) h in
    let r = and_right (is_encodable i && (registers_fit i b.registers && numbers_fit i p)) (targets_fit b.insns i && (leaves n i && is_caught b.regions n i)) h in
    (and_right (registers_fit i b.registers) (numbers_fit i p) (and_right (is_encodable i) (registers_fit i b.registers && numbers_fit i p) l), and_left (targets_fit b.insns i) (leaves n i && is_caught b.regions n i) r)

-- the parts of a body that fits
record Parts (p : Program) (b : Body) : Type 0 where
  begins : may_begin (slice_get b.insns 0) ≡ true
  ending : ends (slice_get b.insns (length b.insns - 1)) ≡ true
  each : list_all (insn_fits p b) (enumerate_from 0 b.insns) ≡ true
  regions : regions_fit p b.insns b.regions ≡ true

parts_of : (p : Program) (b : Body) → body_fits p b ≡ true → Parts p b
unfolding body_fits
parts_of p b h =
    let first = may_begin (slice_get b.insns 0) in
    let last = ends (slice_get b.insns (length b.insns - 1)) in
    let more = list_all (insn_fits p b) (enumerate_from 0 b.insns) && regions_fit p b.insns b.regions in
    let l = and_left (first && last) (list_all follows (neighbours b.insns) && more) h in
    let r = and_right (list_all follows (neighbours b.insns)) more (and_right (first && last) (list_all follows (neighbours b.insns) && more) h) in
    record {
      begins = and_left first last l;
      ending = and_right first last l;
      each = and_left (list_all (insn_fits p b) (enumerate_from 0 b.insns)) (regions_fit p b.insns b.regions) r;
      regions = and_right (list_all (insn_fits p b) (enumerate_from 0 b.insns)) (regions_fit p b.insns b.regions) r;
    }

begun_some : (is : List Insn) → may_begin (slice_get is 0) ≡ true → 0 < length is
begun_some [] e = absurd (true≢false (sym e))
begun_some (i ∷ is) e = omega arith

body_of_method : (p : Program) (class : ℕ) (m : Method) (b : Body) → m.body ≡ Some b → method_fits p class m ≡ true → (frame_fits p m b ≡ true) × (body_fits p b ≡ true)
unfolding method_fits
body_of_method p class m b e h =
    let f = and_right (is_class_number (class_of_method (slice_get p.methods m.name)) class) (code_fits p m m.body) (and_left (is_class_number (class_of_method (slice_get p.methods m.name)) class && code_fits p m m.body) _ h) in
    let g : code_fits p m (Some b) ≡ true = subst (λ o. code_fits p m o ≡ true) e f in
    let k = and_right (not (lacks_code m.flags)) (frame_fits p m b && (body_fits p b && lines_fit (length b.insns) m.lines)) g in
    (and_left (frame_fits p m b) (body_fits p b && lines_fit (length b.insns) m.lines) k, and_left (body_fits p b) (lines_fit (length b.insns) m.lines) (and_right (frame_fits p m b) (body_fits p b && lines_fit (length b.insns) m.lines) k))

method_of : (p : Program) (c : Class) (k : ℕ) (m : Method) → class_fits p c ≡ true → slice_get c.methods k ≡ Some m → method_fits p c.name m ≡ true
unfolding class_fits methods_fit
method_of p c k m h e =
    let two = and_right (types_of_class_fit p c && _) (fields_fit p c.name c.fields && (list_all (method_fits p c.name) c.methods && _)) h in
    all_at (method_fits p c.name) c.methods k m (and_left (list_all (method_fits p c.name) c.methods) _ (and_right (fields_fit p c.name c.fields) (list_all (method_fits p c.name) c.methods && _) two)) e

cells_limit : (p : Program) → is_well_formed p ≡ true → cells_of p ≤ 67108864
cells_limit p h = leb-true (cells_of p) 67108864 (formed p h).cells

sum_at : {X : Type 0} (f : X → ℕ) (xs : List X) (k : ℕ) (x : X) → slice_get xs k ≡ Some x → f x ≤ sum_by f xs
sum_at f [] k x e = absurd (cc)
sum_at f (y ∷ ys) zero x e = let s : x ≡ y = cc in let c = sum_by-cons f y ys in let g = ap f s in omega (arith, c, g)
sum_at f (y ∷ ys) (suc k) x e = let i = sum_at f ys k x e in let c = sum_by-cons f y ys in omega (arith, c, i)

wide_cells : (r n : ℕ) → 0 < n → r ≤ (r + 1) * n
wide_cells r zero h = absurd (omega (arith, h))
wide_cells r (suc n) h = go n
  where
    go : (n : ℕ) → r ≤ (r + 1) * suc n
    go zero = omega arith
    go (suc n) = let i = go n in omega (arith, i)

pub code : (p : Program) → is_well_formed p ≡ true → Sound p → (at : ℕ) (c : Class) (k : ℕ) (m : Method) (b : Body) → slice_get p.classes at ≡ Some c → slice_get c.methods k ≡ Some m → m.body ≡ Some b → IsCode p m b
code p w s at c k m b ec em eb =
    let fits = body_of_method p c.name m b eb (method_of p c k m (all_at (class_fits p) p.classes at c s.classes_fit ec) em) in
    let parts = parts_of p b fits.1 in
    let some = begun_some b.insns parts.begins in
    let l = cells_limit p w in
    let cells = sum_at class_cells p.classes at c ec in
    let methods = sum_at method_cells c.methods k m em in
    let body : method_cells m ≡ body_cells b = ap (λ o. elim o [ Some x ↦ body_cells x | None ↦ 0 ]) eb in
    let wide = wide_cells b.registers (length b.insns) some in
    record {
      some = some;
      numbers = λ n i e. (numbers_of p b n i (all_at (insn_fits p b) (enumerate_from 0 b.insns) n (n, i) parts.each (enumerated b.insns 0 n i e ∙ ap (λ z. Some (z, i)) (zero_more n)))).0;
      targets = λ n i e. (numbers_of p b n i (all_at (insn_fits p b) (enumerate_from 0 b.insns) n (n, i) parts.each (enumerated b.insns 0 n i e ∙ ap (λ z. Some (z, i)) (zero_more n)))).1;
      ends = parts.ending;
      regions = all_regions p b.insns b.regions parts.regions;
      frame = fits.0;
      few = omega (arith, l, cells, methods, body, wide);
    }

-- ---- positions

pub got_short : {X : Type 0} (xs : List X) (i : ℕ) (x : X) → slice_get xs i ≡ Some x → i < length xs
got_short [] i x e = cc
got_short (y ∷ ys) zero x e = omega arith
got_short (y ∷ ys) (suc i) x e = let h = got_short ys i x e in omega (arith, h)

pub entered : (is : List Insn) (n : ℕ) → may_enter (slice_get is n) ≡ true → n < length is
entered is n e = by (slice_get is n) refl e
  where
    by : (o : Option Insn) → slice_get is n ≡ o → may_enter o ≡ true → n < length is
    by None f e = absurd (true≢false (sym e))
    by (Some i) f e = got_short is n i f

pub handled : (is : List Insn) (n : ℕ) → may_begin (slice_get is n) ≡ true → n < length is
handled is n e = by (slice_get is n) refl e
  where
    by : (o : Option Insn) → slice_get is n ≡ o → may_begin o ≡ true → n < length is
    by None f e = absurd (true≢false (sym e))
    by (Some i) f e = got_short is n i f

-- where a form goes on, there is a next one
pub next_there : (p : Program) (m : Method) (b : Body) → IsCode p m b → (n : ℕ) (i : Insn) → slice_get b.insns n ≡ Some i → goes_on i ≡ true → n + 1 < length b.insns
next_there p m b c n i e g = elim (cases_lt (n + 1) (length b.insns)) [ inl l ↦ l | inr h ↦ absurd (last h) ]
  where
    lt : n < length b.insns
    lt = got_short b.insns n i e

    last : length b.insns ≤ n + 1 → ⊥
    last h =
        let q : length b.insns - 1 ≡ n = omega (arith, h, lt) in
        let z : ends (Some i) ≡ true = ap ends (sym e) ∙ ap (λ k. ends (slice_get b.insns k)) (sym q) ∙ c.ends in
        true≢false (sym z ∙ ap not g)
