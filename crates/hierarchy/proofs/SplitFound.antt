-- What the search for a split override answers.
use Rattle.std.proofs.Common.{◌≡◌, ℕ, ◌<◌, ◌^◌, Bool, true, List, length, Option, Result, Ok, Err, sym, subst, ◌∙◌, arith}
use Rattle.std.specs.Prelude.{IfOk}
use Rattle.program_model.specs.declared.program.Program.{Program}
use Rattle.program_model.specs.ProgramRules.{is_well_formed}
use Rattle.class_defs.proofs.WellFormed.{few_classes}
use Rattle.class_defs.specs.Places.{super_place}
use Rattle.hierarchy.specs.declared.build.Named.{Named}
use Rattle.hierarchy.specs.declared.build.Shape.{Shape}
use Rattle.hierarchy.specs.Climbing.{IsOrder}
use Rattle.hierarchy.specs.Membership.{AreKeys, method_pair}
use Rattle.hierarchy.specs.Naming.{IsNamed}
use Rattle.hierarchy.specs.Shapes.{IsMade}
use Rattle.hierarchy.specs.Splitting.{Map, HasMaps, FirstBy, AnswersSplit, SplitsFirst}
use Rattle.hierarchy.specs.Tables.{read_at}
use Rattle.hierarchy.proofs.Placed.{made_fits}
use Rattle.hierarchy.proofs.SplitFaults.{splits_first}

pub answered : {E : Type 0} (p : Program) (keys : List ℕ) (special : List Bool) (supers : List ℕ) (maps : List Map) (r : Result (Option (ℕ × ℕ)) E) → HasMaps p keys special maps → IfOk r (λ o. FirstBy p keys special supers maps o) → IfOk r (λ o. AnswersSplit p keys special supers o)
answered p keys special supers maps (Ok o) h f = record { maps = maps; has = h; is = f }
answered p keys special supers maps (Err e) h f = f

pub found_split : {E : Type 0} (p : Program) (s : Shape) (n : Named) (keys : List ℕ) (special : List Bool) (supers order : List ℕ) (r : Result (Option (ℕ × ℕ)) E) → is_well_formed p ≡ true → IsMade p s → IsNamed p n
    → keys ≡ n.method_keys.keys.items → special ≡ n.special.items → supers ≡ s.supers.items → order ≡ s.order.items
    → ((rows : List (List ℕ)) → length supers < 2 ^ 32 → ((c : ℕ) → read_at supers c ≡ super_place p c) → length supers ≡ length p.classes → IsOrder supers rows order → IfOk r (λ o. AnswersSplit p keys special supers o)) → IfOk r (λ o. SplitsFirst p o)
found_split {E} p s n keys special supers order r wf m named ks sp su ord h =
    let f = made_fits p s wf m in
    let few = few_classes p wf in
    let long : length s.supers.items ≡ length p.classes = f.count in
    let up : (c : ℕ) → read_at supers c ≡ super_place p c = subst (λ l. (c : ℕ) → read_at l c ≡ super_place p c) (sym su) f.supers in
    let size : length supers ≡ length p.classes = subst (λ l. length l ≡ length p.classes) (sym su) long in
    let o : IsOrder supers s.lists.rows order = subst (λ l. IsOrder l s.lists.rows order) (sym su) (subst (λ l. IsOrder s.supers.items s.lists.rows l) (sym ord) (m.order (omega (arith, few, long)))) in
    by_result r (h s.lists.rows (omega (arith, few, size)) up size o)
  where
    by_result : (r : Result (Option (ℕ × ℕ)) E) → IfOk r (λ o. AnswersSplit p keys special supers o) → IfOk r (λ o. SplitsFirst p o)
    by_result (Err e) a = a
    by_result (Ok o) a =
        let f = made_fits p s wf m in
        splits_first p wf f.once keys n.method_keys.count special (subst (λ l. AreKeys method_pair p.methods l n.method_keys.count) (sym ks) named.method_keys) (sp ∙ named.special) supers
        (subst (λ l. (c : ℕ) → read_at l c ≡ super_place p c) (sym su) f.supers) (subst (λ l. length l ≡ length p.classes) (sym su) f.count) o a
