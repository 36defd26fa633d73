-- The interfaces of each class are spelled where its class_def names them.
use Rattle.std.proofs.Common.{◌≡◌, ◌≤◌, ℕ, suc, true, List, [], ◌∷◌, length, map, drop, refl, sym, ap, ◌∙◌, arith, inl, inr, Some}
use Rattle.std.specs.Prelude.{slice_get, sum_by}
use Rattle.std.specs.List.{AllByRecursion, flat_map, list_all}
use Rattle.std.proofs.lemmas.Bool.{and_parts}
use Rattle.program_model.specs.declared.pass.Renumber.{Renumber}
use Rattle.program_model.specs.declared.value.EncValue.{EncValue}
use Rattle.program_model.specs.declared.program.Class.{Class}
use Rattle.program_model.specs.declared.program.Program.{Program}
use Rattle.program_model.specs.Texts.{has_type}
use Rattle.program_model.specs.Items.{items_of, class_items}
use Rattle.dex_pools.specs.declared.interner.Interner.{Interner}
use Rattle.dex_pools.specs.declared.used.Named.TheVariants as named
use Rattle.dex_pools.specs.Interned.{IsInterned}
use Rattle.dex_pools.specs.Spelled.{AreParameters}
use Rattle.dex_pools.specs.Used.{class_names, kind_names}
use Rattle.dex_write.specs.declared.tables.ClassOffsets.{ClassOffsets}
use Rattle.dex_write.specs.Plans.{Plan}
use Rattle.dex_write.specs.Codes.{codes_behind, lines_behind}
use Rattle.dex_write.specs.Sets.{behind_class}
use Rattle.dex_write.specs.Written.{ArePlans}
use Rattle.dex_defs.specs.Arranged.{Both, Lie, LeadsTo}
use Rattle.dex_defs.specs.Texts.{type_list_text}
use Rattle.dex_defs.specs.Written.{new_type, written_class, written_by}
use Rattle.write_laws.specs.Used.{IsShort}
use Rattle.write_laws.specs.Fits.{Halved, FitsList}
use Rattle.write_laws.proofs.Pools.{leads_spelled}
use Rattle.written_file.proofs.Fit.{FitsClass}
use Rattle.written_file.proofs.In.{In, in_left}
use Rattle.written_file.proofs.Plans.{class_used}
use Rattle.written_file.specs.Parts.{class_parts}
use Rattle.written_file.proofs.KindFields.{HasPlan}
use Rattle.written_code.proofs.Fitting.{sum_in}
use Rattle.written_code.proofs.Known.{kind_low}

map_size : {X Y : Type 0} (f : X → Y) (xs : List X) → length (map f xs) ≡ length xs
map_size f [] = refl
map_size f (x ∷ xs) = ap suc (map_size f xs)

kind_in : (ns : List ℕ) (n : ℕ) → In n ns → In (named.Kind n) (flat_map kind_names ns)
kind_in [] n i = absurd i
kind_in (x ∷ xs) n (inl e) = inl (ap (λ (k : ℕ). named.Kind k) e)
kind_in (x ∷ xs) n (inr i) = inr (kind_in xs n i)

own_in : (c : Class) (n : ℕ) → In n c.interfaces → In (named.Kind n) (class_names c)
unfolding class_names
own_in c n i = inr (inr (in_left (named.Kind n) (flat_map kind_names c.interfaces) _ (kind_in c.interfaces n i)))

class_many : (c : Class) → length c.interfaces ≤ class_items c
unfolding class_items
class_many c = omega arith

program_many : (p : Program) → sum_by class_items p.classes ≤ items_of p
unfolding items_of
program_many p = omega arith

module _ (p : Program) (i : Interner) (few : IsShort p) (h : IsInterned p i) (fits : (k : ℕ) (c : Class) → slice_get p.classes k ≡ Some c → FitsClass p c) (items : items_of p ≤ 16777216) (types : length (written_by i p).types ≤ 65536) where
  abbrev q : Program
  q = written_by i p

  abbrev r : Renumber
  r = i.numbers

  low_all : (k : ℕ) (c : Class) → slice_get p.classes k ≡ Some c → (ns : List ℕ) → list_all (has_type p) ns ≡ true → ((n : ℕ) → In n ns → In n c.interfaces) → Halved (length q.types) (map (new_type r) ns)
  low_all k c is [] e on = tt
  low_all k c is (n ∷ ns) e on =
      let both = and_parts (has_type p n) (list_all (has_type p) ns) e in
      (kind_low p i few h n both.0 (class_used p k c is (named.Kind n) (own_in c n (on n (inl refl)))), low_all k c is ns both.1 (λ m j. on m (inr j)))

  list_fits : (k : ℕ) (c : Class) → slice_get p.classes k ≡ Some c → FitsList (length q.types) (written_class r p c).interfaces
  list_fits k c is =
      let both = and_parts (has_type p c.superclass) (list_all (has_type p) c.interfaces) (fits k c is).above in
      record {
        short = omega (arith, map_size (new_type r) c.interfaces, class_many c, sum_in class_items p.classes k c is, program_many p, items);
        fit = low_all k c is c.interfaces both.1 (λ n j. j);
      }

  pub all_interfaces : (bytes : List ℕ) (from : ℕ) (starts : List ℕ) (lists : List (List ℕ)) (to : ℕ) (cs : List Class) (offsets : ClassOffsets) (values : Plan → List EncValue) (place code_at lines_at : ℕ) (sets refs : List ℕ) (ps : List Plan) → ArePlans p r cs ps → AllByRecursion (HasPlan p i few h fits) ps
      → Lie bytes 4 from starts (map type_list_text lists) to → Both (λ c part. LeadsTo lists starts c.interfaces part.def.interfaces) (map (written_class r p) cs) (class_parts r offsets values place code_at lines_at sets refs ps)
      → Both (λ c x. AreParameters bytes (length q.types) x.def.interfaces c.interfaces) (map (written_class r p) cs) (class_parts r offsets values place code_at lines_at sets refs ps)
  all_interfaces bytes from starts lists to [] offsets values place code_at lines_at sets refs [] are a lie leads = tt
  all_interfaces bytes from starts lists to [] offsets values place code_at lines_at sets refs (plan ∷ ps) are a lie leads = absurd are
  all_interfaces bytes from starts lists to (c ∷ cs) offsets values place code_at lines_at sets refs [] are a lie leads = absurd are
  all_interfaces bytes from starts lists to (c ∷ cs) offsets values place code_at lines_at sets refs (plan ∷ ps) are a lie leads =
      let x : HasPlan p i few h fits plan = a.0 in
      let same : x.c ≡ c = sym x.planned.class ∙ are.0.class in
      let is : slice_get p.classes x.k ≡ Some c = x.is_class ∙ ap (λ (y : Class). Some y) same in (
        leads_spelled bytes (length q.types) from starts lists to _ (written_class r p c).interfaces types (list_fits x.k c is) lie leads.0,
        all_interfaces bytes from starts lists to cs offsets values (suc place) (codes_behind code_at plan.methods) (lines_behind lines_at plan.methods) (behind_class plan sets) (drop (length plan.methods) refs) ps are.1 a.1 lie leads.1,
      )
