-- The code of a well-formed program is short, and it has few classes.
use Rattle.std.proofs.Common.{◌≡◌, ℕ, zero, suc, ◌+◌, ◌*◌, ◌-◌, ◌^◌, ◌<◌, ◌≤◌, Bool, true, false, nat_eq, eqb, List, [], ◌∷◌, map, length, Option, Some, None, refl, ap, subst, arith, leb-true}
use Rattle.std.specs.Prelude.{◌&&◌, ◌||◌, not, sum_by, slice_get, nat_le, nat_lt, is_some}
use Rattle.std.specs.List.{list_all, list_any, enumerate_from, IsDistinct, AllByRecursion}
use Rattle.std.proofs.Math.Nat.{add-mul}
use Rattle.std.proofs.lemmas.Bool.{ne_eqb}
use Rattle.std.proofs.lemmas.List.Sums.{sum_by-cons}
use Rattle.std.proofs.lemmas.Map.Steps.{length-le_from_distinct_below}
use Rattle.class_defs.proofs.Positions.{number_of}
use Rattle.class_defs.proofs.WellFormed.{and_left, and_right, all_at, sound, class_parts}
use Rattle.class_defs.specs.ClassGraph.{IsTwice}
use Rattle.program_model.specs.BodyRules.{body_fits, follows, ends, insn_fits}
use Rattle.program_model.specs.Cells.{body_cells, method_cells, class_cells, cells_of}
use Rattle.program_model.specs.Items.{region_items, rest_items, body_items, method_items, class_items, items_of}
use Rattle.program_model.specs.LineRules.{lines_fit}
use Rattle.program_model.specs.MemberRules.{class_fits, types_of_class_fit, fields_fit, methods_fit, method_fits, code_fits, frame_fits, lacks_code, is_class_number, class_of_method}
use Rattle.program_model.specs.Neighbours.{neighbours}
use Rattle.program_model.specs.ProgramRules.{is_well_formed}
use Rattle.program_model.proofs.Formed.{formed}
use Rattle.program_model.specs.RegionRules.{may_begin, catches, region_fits, are_apart, regions_fit}
use Rattle.program_model.specs.TableRules.{tables_are_short, texts_are_short, entries_fit, entries_differ, tables_fit}
use Rattle.program_model.specs.declared.body.Body.{Body}
use Rattle.program_model.specs.declared.body.Region.{Region}
use Rattle.program_model.specs.declared.program.Class.{Class}
use Rattle.program_model.specs.declared.program.Method.{Method}
use Rattle.program_model.specs.declared.program.Program.{Program}
use Rattle.insn_set.specs.declared.form.Insn.{Insn}
use Rattle.verify.specs.Typings.{IsShort}

-- ---- sums

sum_at : {X : Type 0} (f : X → ℕ) (xs : List X) (k : ℕ) (x : X) → slice_get xs k ≡ Some x → f x ≤ sum_by f xs
sum_at f [] k x e = absurd (cc)
sum_at f (y ∷ ys) zero x e = let s : x ≡ y = cc in let c = sum_by-cons f y ys in let g = ap f s in omega (arith, c, g)
sum_at f (y ∷ ys) (suc k) x e = let i = sum_at f ys k x e in let c = sum_by-cons f y ys in omega (arith, c, i)

times : (r n : ℕ) → n ≤ (r + 1) * n
times r n = let e = add-mul r 1 n in omega (arith, e)

-- ---- the limits of a program

limits : (p : Program) → is_well_formed p ≡ true → (cells_of p ≤ 67108864) × (items_of p ≤ 16777216)
limits p h =
    let f = formed p h in
    (leb-true (cells_of p) 67108864 f.cells, leb-true (items_of p) 16777216 f.items)

class_items_in : (p : Program) → sum_by class_items p.classes ≤ items_of p
unfolding items_of
class_items_in p = omega arith

method_items_in : (c : Class) → sum_by method_items c.methods ≤ class_items c
unfolding class_items
method_items_in c = omega arith

body_fits_of : (p : Program) (class : ℕ) (m : Method) (b : Body) → m.body ≡ Some b → method_fits p class m ≡ true → body_fits p b ≡ true
unfolding method_fits
body_fits_of p class m b e h =
    let f = and_right (is_class_number (class_of_method (slice_get p.methods m.name)) class) (code_fits p m m.body) (and_left (is_class_number (class_of_method (slice_get p.methods m.name)) class && code_fits p m m.body) _ h) in
    let g : code_fits p m (Some b) ≡ true = subst (λ o. code_fits p m o ≡ true) e f in
    and_left (body_fits p b) (lines_fit (length b.insns) m.lines) (and_right (frame_fits p m b) (body_fits p b && lines_fit (length b.insns) m.lines) (and_right (not (lacks_code m.flags)) (frame_fits p m b && (body_fits p b && lines_fit (length b.insns) m.lines)) g))

method_of : (p : Program) (c : Class) (k : ℕ) (m : Method) → class_fits p c ≡ true → slice_get c.methods k ≡ Some m → method_fits p c.name m ≡ true
unfolding class_fits methods_fit
method_of p c k m h e =
    let two = and_right (types_of_class_fit p c && _) (fields_fit p c.name c.fields && (list_all (method_fits p c.name) c.methods && _)) h in
    all_at (method_fits p c.name) c.methods k m (and_left (list_all (method_fits p c.name) c.methods) _ (and_right (fields_fit p c.name c.fields) (list_all (method_fits p c.name) c.methods && _) two)) e

all_regions : (p : Program) (insns : List Insn) (rs : List Region) → regions_fit p insns rs ≡ true → list_all (region_fits p insns) rs ≡ true
unfolding regions_fit
all_regions p insns rs h = and_left (list_all (region_fits p insns) rs) (list_all are_apart (neighbours rs)) h

regions_of : (p : Program) (b : Body) → body_fits p b ≡ true → list_all (region_fits p b.insns) b.regions ≡ true
unfolding body_fits
regions_of p b h =
    let one = and_right (may_begin (slice_get b.insns 0) && ends (slice_get b.insns (length b.insns - 1))) (list_all follows (neighbours b.insns) && (list_all (insn_fits p b) (enumerate_from 0 b.insns) && regions_fit p b.insns b.regions)) h in
    let two = and_right (list_all follows (neighbours b.insns)) (list_all (insn_fits p b) (enumerate_from 0 b.insns) && regions_fit p b.insns b.regions) one in
    all_regions p b.insns b.regions (and_right (list_all (insn_fits p b) (enumerate_from 0 b.insns)) (regions_fit p b.insns b.regions) two)

-- a region has a handler
one_item : (r : Region) → catches r ≡ true → 1 ≤ region_items r
one_item r h = go (length r.handlers) r.rest h
  where
    go : (n : ℕ) (o : Option ℕ) → (not (nat_eq n 0) || is_some o) ≡ true → 1 ≤ n + rest_items o
    go (suc n) o h = omega arith
    go zero (Some x) h = omega arith
    go zero None h = absurd (cc)

few_regions : (p : Program) (insns : List Insn) (rs : List Region) → list_all (region_fits p insns) rs ≡ true → length rs ≤ sum_by region_items rs
few_regions p insns [] h = omega arith
few_regions p insns (r ∷ rs) h =
    let f = and_left (region_fits p insns r) (list_all (region_fits p insns) rs) h in
    let c : catches r ≡ true = and_left (catches r) _ (and_right _ (catches r && _) f) in
    let i = few_regions p insns rs (and_right (region_fits p insns r) (list_all (region_fits p insns) rs) h) in
    let o = one_item r c in
    let s = sum_by-cons region_items r rs in
    omega (arith, i, o, s)

pub short_code : (p : Program) → is_well_formed p ≡ true → (at : ℕ) (c : Class) (k : ℕ) (m : Method) (b : Body) → slice_get p.classes at ≡ Some c → slice_get c.methods k ≡ Some m → m.body ≡ Some b → IsShort b
short_code p h at c k m b ec em eb =
    let l = limits p h in
    let cells = sum_at class_cells p.classes at c ec in
    let methods = sum_at method_cells c.methods k m em in
    let body : method_cells m ≡ body_cells b = ap (λ o. elim o [ Some x ↦ body_cells x | None ↦ 0 ]) eb in
    let insns = times b.registers (length b.insns) in
    let fits = body_fits_of p c.name m b eb (method_of p c k m (all_at (class_fits p) p.classes at c (sound p h).classes_fit ec) em) in
    let regions = few_regions p b.insns b.regions (regions_of p b fits) in
    let listed : body_items m.body ≡ sum_by region_items b.regions = ap body_items eb in
    let of_method = sum_at method_items c.methods k m em in
    let of_methods = method_items_in c in
    let of_class = sum_at class_items p.classes at c ec in
    let of_classes = class_items_in p in
    record {
      insns = omega (arith, l.0, cells, methods, body, insns);
      regions = omega (arith, l.1, regions, listed, of_method, of_methods, of_class, of_classes);
    }

-- ---- few classes

name_of : Class → ℕ
name_of c = c.name

clear : (c : Class) (cs : List Class) → ((j : ℕ) (d : Class) → slice_get cs j ≡ Some d → c.name ≡ d.name → ⊥) → AllByRecursion (λ n. eqb (name_of c) n ≡ false) (map name_of cs)
unfolding name_of
clear c [] f = tt
clear c (d ∷ ds) f = (ne_eqb c.name d.name (λ e. f 0 d refl e), clear c ds (λ j x e. f (suc j) x e))

spread : (cs : List Class) → ((i j : ℕ) (c d : Class) → i < j → slice_get cs i ≡ Some c → slice_get cs j ≡ Some d → c.name ≡ d.name → ⊥) → IsDistinct eqb (map name_of cs)
unfolding IsDistinct
spread [] f = tt
spread (c ∷ cs) f = (clear c cs (λ j d e q. f 0 (suc j) c d (omega arith) refl e q), spread cs (λ i j x y l e g q. f (suc i) (suc j) x y (omega (arith, l)) e g q))

all_below : (cs : List Class) (n : ℕ) → ((i : ℕ) (c : Class) → slice_get cs i ≡ Some c → c.name < n) → (q : ℕ) → list_any (eqb q) (map name_of cs) ≡ true → q < n
unfolding name_of
all_below [] n h q e = absurd (cc)
all_below (c ∷ cs) n h q e = go (eqb q c.name) refl e (all_below cs n (λ i y f. h (suc i) y f) q)
  where
    go : (b : Bool) → eqb q c.name ≡ b → (b || list_any (eqb q) (map name_of cs)) ≡ true → (list_any (eqb q) (map name_of cs) ≡ true → q < n) → q < n
    go true f g rest = let s : q ≡ c.name = number_of q c.name f in let l = h 0 c refl in omega (arith, s, l)
    go false f g rest = rest g

map_long : (cs : List Class) → length (map name_of cs) ≡ length cs
map_long [] = refl
map_long (c ∷ cs) = ap suc (map_long cs)

few_types : (p : Program) → is_well_formed p ≡ true → length p.types ≤ 65535
unfolding tables_fit tables_are_short
few_types p h =
    let t : tables_are_short p ≡ true = and_left (tables_are_short p) (texts_are_short p) (and_left (tables_are_short p && texts_are_short p) (entries_fit p && entries_differ p) (formed p h).tables) in
    let l = and_left (nat_le (length p.types) 65535 && nat_le (length p.protos) 65535) (nat_le (length p.fields) 65536 && nat_le (length p.methods) 65536) (and_right (nat_lt (length p.strings) (2 ^ 32) && nat_lt (length p.classes) (2 ^ 32)) ((nat_le (length p.types) 65535 && nat_le (length p.protos) 65535) && (nat_le (length p.fields) 65536 && nat_le (length p.methods) 65536)) t) in
    leb-true (length p.types) 65535 (and_left (nat_le (length p.types) 65535) (nat_le (length p.protos) 65535) l)

pub few : (p : Program) → is_well_formed p ≡ true → ((class : ℕ) → IsTwice p class → ⊥) → length p.classes ≤ 65535
few p h once =
    let d = spread p.classes (λ i j c d l e f q. once j (record { earlier = i; before = l; one = c; other = d; is_one = e; is_other = f; same = q })) in
    let b = all_below p.classes (length p.types) (λ i c e. (class_parts p (sound p h) i c e).name) in
    let l = length-le_from_distinct_below (map name_of p.classes) (length p.types) d b in
    let t = few_types p h in
    let m = map_long p.classes in
    omega (arith, l, t, m)
