-- The written program lays out.
use Rattle.std.proofs.Common.{◌≡◌, ℕ, true, List, [], ◌∷◌, map, Option, Some, None, refl, sym, subst, All}
use Rattle.std.specs.Prelude.{Contains, slice_get}
use Rattle.std.specs.Option.{option_map}
use Rattle.std.proofs.lemmas.List.Elements.{All-nil, All-cons, All-append, All-map, All-contains}
use Rattle.std.proofs.lemmas.List.Sorted.{All-permutation}
use Rattle.program_model.specs.ProgramRules.{is_well_formed}
use Rattle.program_model.specs.declared.body.Body.{Body}
use Rattle.program_model.specs.declared.program.Class.{Class}
use Rattle.program_model.specs.declared.program.Method.{Method}
use Rattle.program_model.specs.declared.program.Program.{Program}
use Rattle.program_model.proofs.Formed.{formed}
use Rattle.dex_pools.specs.declared.interner.Interner.{Interner}
use Rattle.dex_pools.specs.Interned.{IsInterned}
use Rattle.dex_defs.specs.LaysOut.{LaysOutMethod, LaysOut}
use Rattle.dex_defs.specs.Written.{one_entry, entries, class_order, new_body, written_method, written_class, written_by, IsWritten}
use Rattle.write_laws.proofs.Reordered.{same_members}
use Rattle.thin_laws.proofs.Tidied.{code_rules}
use Rattle.layout_law.proofs.Bodies.{all_from}
use Rattle.layout_law.proofs.Lower.{renumbered_lays_out}
use Rattle.layout_law.proofs.Methods.{MethodLies, ClassLies, got_all, contained}
use Rattle.layout_law.specs.Ascending.{TextsAscend}
use Rattle.layout_law.proofs.Named.{body_used, numbers_fall}

all_entries : {X Y : Type 0} (P : Y → Type 0) (f : X → Y) (table : List X) (order : List ℕ) → ((n : ℕ) (x : X) → slice_get table n ≡ Some x → P (f x)) → All P (entries f table order)
all_entries P f table [] h = All-nil P
all_entries {X} {Y} P f table (n ∷ ns) h = All-append P (one_entry f (slice_get table n)) (entries f table ns) (one (slice_get table n) refl) (all_entries P f table ns h)
  where
    one : (o : Option X) → slice_get table n ≡ o → All P (one_entry f o)
    one None e = All-nil P
    one (Some x) e = All-cons P (f x) [] (h n x e) (All-nil P)

module _ (p : Program) (i : Interner) (well : is_well_formed p ≡ true) (texts : TextsAscend p) (h : IsInterned p i) where
  code_lies : (c : Class) (m : Method) → Contains p.classes c → Contains c.methods m → (o : Option Body) → m.body ≡ o → LaysOutMethod o → LaysOutMethod (option_map (new_body i.numbers) o)
  code_lies c m k j None e l = tt
  code_lies c m k j (Some b) e l = renumbered_lays_out i.numbers b (numbers_fall p i (formed p well).tables texts h b (code_rules p c m b well k j e).0 (body_used p c m b k j e)) l

  class_lies : (c : Class) → Contains p.classes c → ClassLies c → ClassLies (written_class i.numbers p c)
  class_lies c k l = All-permutation MethodLies (map (written_method i.numbers) c.methods) (written_class i.numbers p c).methods (same_members p i.numbers c).methods
      (All-map MethodLies (written_method i.numbers) c.methods (all_from (λ m. MethodLies (written_method i.numbers m)) c.methods (λ m j. code_lies c m k j m.body refl (All-contains MethodLies c.methods m l j))))

  by_interner : LaysOut p → LaysOut (written_by i p)
  by_interner l = all_entries ClassLies (written_class i.numbers p) p.classes (class_order p) (λ n c e. class_lies c (contained p.classes n c e) (got_all ClassLies p.classes n c l e))

pub written_lies : (p q : Program) → is_well_formed p ≡ true → TextsAscend p → IsWritten p q → LaysOut p → LaysOut q
written_lies p q well texts w l = subst (λ (r : Program). LaysOut r) (sym w.is) (by_interner p w.interner well texts w.used l)

-- by the new numbers alone
pub interned_lies : (p : Program) (i : Interner) → is_well_formed p ≡ true → TextsAscend p → IsInterned p i → LaysOut p → LaysOut (written_by i p)
interned_lies p i well texts used l = by_interner p i well texts used l
