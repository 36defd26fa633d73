-- The code of a method that stands in the class data of a class is read.
use Rattle.std.proofs.Common.{◌≡◌, ◌≤◌, ◌<◌, ◌^◌, ℕ, zero, suc, List, [], ◌∷◌, ◌++◌, length, Some, Result, Ok, sym, ap, subst, ◌∙◌, arith}
use Rattle.std.specs.Prelude.{slice_get}
use Rattle.std.specs.Option.{option_map}
use Rattle.lemmas.proofs.Lists.{get_map}
use Rattle.lemmas.proofs.Options.{some_same, before_map}
use Rattle.dex_base.specs.Reading.{◌>>=◌}
use Rattle.program_model.specs.declared.program.Class.{Class}
use Rattle.program_model.specs.declared.program.Method.{Method}
use Rattle.program_model.specs.declared.program.Program.{Program}
use Rattle.dex_defs.specs.ClassData.{Entry, Lists, IsClassDataOf}
use Rattle.dex_defs.specs.ClassDefs.{Def}
use Rattle.dex_defs.specs.Places.{HasDef, HasEntry}
use Rattle.dex_defs.specs.Spells.{Spells}
use Rattle.dex_read.proofs.Rising.{then_ok}
use Rattle.dex_read.specs.declared.class_data.Listed.{Listed}
use Rattle.dex_read.specs.declared.class_data.Members.{Members}
use Rattle.dex_read.specs.declared.members.Budget.{Budget}
use Rattle.dex_read.specs.Classes.{methods_of}
use Rattle.dex_read.specs.Code.{method_at}
use Rattle.dex_read.specs.File.{classes_at}
use Rattle.dex_read.specs.Steps.{for_each}
use Rattle.file_laws.specs.ClassData.{entry_of, lists_of}
use Rattle.spelled_law.proofs.Classes.{founds_listed}
use Rattle.refused_law.proofs.OnceEntries.{list_of, listed_once}
use Rattle.clean_files.proofs.Classes.{list_in, same_list, class_of}
use Rattle.clean_files.proofs.CodeMethods.{Coded, founds_method}

-- ---- what is read for each entry of a list

of_each : {X Y S F : Type 0} (f : X → S → Result (Y × S) F) (xs : List X) (s : S) (r : List Y × S) → for_each f xs s ≡ Ok r → (k : ℕ) (x : X) → slice_get xs k ≡ Some x → (t : S) × (y : Y × S) × (f x t ≡ Ok y)
of_each f [] s r h k x e = absurd cc
of_each f (z ∷ zs) s r h zero x e =
    let a = then_ok (f z s) (λ y. for_each f zs y.1 >>= λ ys. Ok (y.0 ∷ ys.0, ys.1)) r h in
    (s, a.0, subst (λ w. f w s ≡ Ok a.0) (some_same z x e) a.1)
of_each f (z ∷ zs) s r h (suc k) x e =
    let a = then_ok (f z s) (λ y. for_each f zs y.1 >>= λ ys. Ok (y.0 ∷ ys.0, ys.1)) r h in
    let b = then_ok (for_each f zs a.0.1) (λ ys. Ok (a.0.0 ∷ ys.0, ys.1)) r a.2 in
    of_each f zs a.0.1 b.0 b.1 k x e

in_first : {X : Type 0} (xs ys : List X) (k : ℕ) (x : X) → slice_get xs k ≡ Some x → slice_get (xs ++ ys) k ≡ Some x
in_first [] ys k x e = absurd cc
in_first (z ∷ zs) ys zero x e = e
in_first (z ∷ zs) ys (suc k) x e = in_first zs ys k x e

in_second : {X : Type 0} (xs ys : List X) (k : ℕ) (x : X) → slice_get ys k ≡ Some x → (j : ℕ) × (slice_get (xs ++ ys) j ≡ Some x)
in_second [] ys k x e = (k, e)
in_second (z ∷ zs) ys k x e = let rest = in_second zs ys k x e in (suc rest.0, rest.1)

-- a method is one of both lists together
among : (m : Members) (which k : ℕ) (x : Listed) → 2 ≤ which → slice_get (list_in m which) k ≡ Some x → (j : ℕ) × (slice_get (m.directs ++ m.virtuals) j ≡ Some x)
among m zero k x method e = absurd (omega (arith, method))
among m (suc zero) k x method e = absurd (omega (arith, method))
among m (suc (suc zero)) k x method e = (k, in_first m.directs m.virtuals k x e)
among m (suc (suc (suc zero))) k x method e = in_second m.directs m.virtuals k x e
among m (suc (suc (suc (suc n)))) k x method e = absurd cc

-- ---- the method

module _ (bytes : List ℕ) (few : length bytes < 2 ^ 32) (q : Program) where
  -- the entry of class data that was read, and what its code has passed
  pub record Reached (e : Entry) : Type 0 where
    pub x : Listed
    pub is : entry_of x ≡ e
    pub coded : Coded bytes few q x

  by_methods : (m : Members) (left : Budget) (r : List Method × Budget) → methods_of bytes q m left ≡ Ok r → (k : ℕ) (x : Listed) → slice_get (m.directs ++ m.virtuals) k ≡ Some x → 0 < x.code → Coded bytes few q x
  unfolding methods_of
  by_methods m left r h k x there some = let a = of_each (method_at bytes q) (m.directs ++ m.virtuals) left r h k x there in (founds_method bytes few q x a.0 some).found a.1 a.2

  by_data : (l : Lists) (offset class which place : ℕ) (def : Def) (e : Entry) → IsClassDataOf bytes offset l → 0 < offset → HasDef bytes class def → def.data_at ≡ offset → HasEntry bytes class which place e → slice_get (list_of l which) place ≡ Some e
  by_data l zero class which place def e is some has same x = absurd (omega (arith, some))
  by_data l (suc k) class which place def e is some has same x = listed_once bytes (suc k) l is.0 is.1 class which place def e has same x

  module _ (left : Budget) (cs : List Class) (filled : classes_at bytes q left ≡ Ok cs) (s : Spells bytes (record q { classes = cs })) where
    pub reached : (class which place : ℕ) (e : Entry) → HasEntry bytes class which place e → 2 ≤ which → 0 < e.code → Reached e
    reached class which place e h method some =
        let c = class_of bytes q left cs filled s class h.def h.has in
        let read = c.read in
        let m = read.listed in
        let place_is : h.def.data_at ≡ read.def.data_at = ap (λ (d : Def). d.data_at) (sym c.own) in
        let listed = (founds_listed bytes q (record { place = class; kind = read.def.class }) read.def.data_at).found m read.listed_are in
        let leads = h.leads.0 in
        let got : slice_get (list_of (lists_of m) which) place ≡ Some e = by_data (lists_of m) read.def.data_at class which place h.def e listed.data_is (omega (arith, leads, place_is)) h.has place_is h in
        let mapped : option_map entry_of (slice_get (list_in m which) place) ≡ Some e = sym (get_map entry_of (list_in m which) place) ∙ ap (λ (es : List Entry). slice_get es place) (sym (same_list m which)) ∙ got in
        let x = before_map entry_of (slice_get (list_in m which) place) e mapped in
        let j = among m which place x.0 method x.1.0 in
        record {
          x = x.0;
          is = x.1.1;
          coded = by_methods m _ read.methods read.methods_are j.0 x.0 j.1 (subst (λ (y : Entry). 0 < y.code) (sym x.1.1) some);
        }
