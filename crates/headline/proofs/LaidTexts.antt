-- The strings and the texts of the types ascend, or 16 bits number them, behind each pass: tables stay, but for short forms that are put
-- behind the strings while there are fewer than 65,536.
use Rattle.std.proofs.Common.{◌≡◌, ◌⊎◌, inl, inr, ℕ, zero, suc, ◌+◌, ◌<◌, ◌≤◌, Bool, true, false, cond, List, [], ◌∷◌, ◌++◌, length, map, Option, Some, None, is_some, refl, sym, ap, ◌∙◌, subst, append_assoc, append-nil, arith}
use Rattle.std.specs.Prelude.{◌&&◌, ◌||◌, not, nat_lt, nat_le, slice_get, sum_by, if◌then◌else◌}
use Rattle.std.proofs.lemmas.Bool.{cases_eq, ltb-true}
use Rattle.std.proofs.lemmas.List.{length-append}
use Rattle.lemmas.proofs.Bools.{and_left, and_right}
use Rattle.dex_pools.specs.Finds.{Ascends}
use Rattle.dex_pools.specs.Numbering.{string_key}
use Rattle.dex_pools.specs.Order.{list_below}
use Rattle.program_model.specs.TableRules.{tables_fit}
use Rattle.program_model.specs.declared.pass.Changed.{Changed}
use Rattle.program_model.specs.declared.pass.Origin.{Origin}
use Rattle.program_model.specs.declared.pass.Outside.{Outside}
use Rattle.program_model.specs.declared.pools.MethodName.{MethodName}
use Rattle.program_model.specs.declared.pools.Proto.{Proto}
use Rattle.program_model.specs.declared.program.Class.{Class}
use Rattle.program_model.specs.declared.program.Method.{Method}
use Rattle.program_model.specs.declared.program.Program.{Program}
use Rattle.facts.specs.declared.facts.Facts.{Facts}
use Rattle.loose_methods.specs.Candidates.{may_be_static}
use Rattle.static_protos.specs.declared.tables.Wanted.{Wanted}
use Rattle.static_protos.specs.Tables.{Tables, tables_of, wanted, texts_with, text_at, proto_at, strings_with, items_with, is_taken, has_room, with_new}
use Rattle.staticise.specs.Judging.{is_loose, behind_proto, behind_entry, behind_method, behind_methods, behind_classes, judged}
use Rattle.staticise.specs.Loosened.{IsLoosenedBy, IsStaticisedBy}
use Rattle.bodies_kept.specs.Stays.{StaysBy}
use Rattle.layout_law.specs.Ascending.{TextsAscend}
use Rattle.layout_law.proofs.Falling.{fitting, type_string}

-- ---- tables that stay

pub kept_ascend : (p q : Program) → q.strings ≡ p.strings → q.types ≡ p.types → TextsAscend p → TextsAscend q
kept_ascend p q strings types t = record {
  strings = subst (λ ss. Ascends list_below ss ⊎ (length ss ≤ 65536)) (sym strings) t.strings;
  types = subst (λ ts. Ascends list_below (map (string_key q.strings) ts)) (sym types) (subst (λ ss. Ascends list_below (map (string_key ss) p.types)) (sym strings) t.types);
}

-- ---- tables with short forms behind

-- further strings, few where there are some
record Grown (old new : List (List ℕ)) : Type 0 where
  pub more : List (List ℕ)
  pub is : new ≡ old ++ more
  pub few : (new ≡ old) ⊎ (length new ≤ 65536)

first_of_three : (a b c d e : Bool) → (a && (b) && c && d && e) ≡ true → b ≡ true
first_of_three true true c d e h = refl
first_of_three true false c d e h = absurd cc
first_of_three false b c d e h = absurd cc

module _ (p : Program) where
  with_text : (strings : List (List ℕ)) (text : List ℕ) (o : Option ℕ) → Grown p.strings strings → (is_some o || nat_lt (length strings) 65536) ≡ true → Grown p.strings (texts_with strings text o)
  with_text strings text (Some place) g h = g
  with_text strings text None g h =
      let few = ltb-true (length strings) 65536 h in
      let long = length-append strings (text ∷ []) in
      record {
        more = g.more ++ text ∷ [];
        is = ap (λ ss. ss ++ text ∷ []) g.is ∙ append_assoc p.strings g.more (text ∷ []);
        few = inr (omega (arith, few, long));
      }

  with_wanted : (t : Tables) (w : Wanted) → has_room p t w ≡ true → Grown p.strings t.strings → Grown p.strings (with_new t w).strings
  with_wanted t w room g = with_text t.strings w.text (text_at t w) g
      (first_of_three (not (is_taken p w.name (proto_at t w))) (is_some (text_at t w) || nat_lt (length t.strings) 65536) (is_some (proto_at t w) || nat_lt (length t.protos) 65535) (nat_le (sum_by length (strings_with t w)) 16777216) (nat_le (items_with t w) 16777216) room)

  module _ (facts : Facts) (o : Outside) (admitted : List Bool) where
    abbrev Kept : Tables → Type 0
    Kept t = Grown p.strings t.strings

    by_proto : (t : Tables) (place : ℕ) (k : Class) (m : Method) (q : MethodName) (proto : Option Proto) → Kept t → Kept (behind_proto p facts o admitted t place k m q proto)
    by_proto t place k m q None g = g
    by_proto t place k m q (Some proto) g = by (may_be_static p facts o admitted place k q m) (has_room p t (wanted p k m q proto)) refl
      where
        by : (a b : Bool) → has_room p t (wanted p k m q proto) ≡ b → Kept (if a && b then with_new t (wanted p k m q proto) else t)
        by true true e = with_wanted t (wanted p k m q proto) e g
        by true false e = g
        by false b e = g

    by_entry : (t : Tables) (place : ℕ) (k : Class) (m : Method) (q : Option MethodName) → Kept t → Kept (behind_entry p facts o admitted t place k m q)
    by_entry t place k m None g = g
    by_entry t place k m (Some q) g = by_proto t place k m q (slice_get p.protos q.proto) g

    by_methods : (t : Tables) (place : ℕ) (k : Class) (ms : List Method) → Kept t → Kept (behind_methods p facts o admitted t place k ms)
    by_methods t place k [] g = g
    by_methods t place k (m ∷ ms) g = by_methods (behind_method p facts o admitted t place k m) place k ms (by_entry t place k m (slice_get p.methods m.name) g)

    by_classes : (t : Tables) (place : ℕ) (ks : List Class) → Kept t → Kept (behind_classes p facts o admitted t place ks)
    by_classes t place [] g = g
    by_classes t place (k ∷ ks) g = by_classes (behind_methods p facts o admitted t place k k.methods) (suc place) ks (by_methods t place k k.methods g)

    none_more : Kept (tables_of p)
    none_more = record { more = []; is = sym (append-nil p.strings); few = inl refl }

    judged_grow : Kept (judged p facts o admitted)
    judged_grow = by o.optimise
      where
        by : (b : Bool) → Kept (if b then behind_classes p facts o admitted (tables_of p) 0 p.classes else tables_of p)
        by true = by_classes (tables_of p) 0 p.classes none_more
        by false = none_more

-- a text of the front stays
front_key : (strings more : List (List ℕ)) (n : ℕ) → n < length strings → string_key (strings ++ more) n ≡ string_key strings n
front_key [] more n l = absurd (omega (arith, l))
front_key (s ∷ strings) more zero l = refl
front_key (s ∷ strings) more (suc n) l = front_key strings more n (omega (arith, l))

front_keys : (strings more : List (List ℕ)) (types : List ℕ) → ((k n : ℕ) → slice_get types k ≡ Some n → n < length strings) → map (string_key (strings ++ more)) types ≡ map (string_key strings) types
front_keys strings more [] f = refl
front_keys strings more (t ∷ types) f = ap (λ x. x ∷ map (string_key (strings ++ more)) types) (front_key strings more t (f 0 t refl)) ∙ ap (λ xs. string_key strings t ∷ xs) (front_keys strings more types (λ k n e. f (suc k) n e))

grown_ascend : (p q : Program) → tables_fit p ≡ true → Grown p.strings q.strings → q.types ≡ p.types → TextsAscend p → TextsAscend q
grown_ascend p q tables g types t = record {
  strings = by g.few;
  types = subst (λ ts. Ascends list_below (map (string_key q.strings) ts)) (sym types)
      (subst (λ ss. Ascends list_below (map (string_key ss) p.types)) (sym g.is) (subst (Ascends list_below) (sym (front_keys p.strings g.more p.types (type_string p (fitting p tables)))) t.types));
}
  where
    by : (q.strings ≡ p.strings) ⊎ (length q.strings ≤ 65536) → Ascends list_below q.strings ⊎ (length q.strings ≤ 65536)
    by (inl e) = subst (λ ss. Ascends list_below ss ⊎ (length ss ≤ 65536)) (sym e) t.strings
    by (inr few) = inr few

pub staticised_ascend : (p : Program) (facts : Facts) (o : Outside) (admitted : List Bool) (c : Changed) → tables_fit p ≡ true → IsStaticisedBy p facts o admitted c → TextsAscend p → TextsAscend c.program
staticised_ascend p facts o admitted c tables h t = elim (cases_eq c.count 0) [
  | inl e ↦ subst TextsAscend (sym (h.same e)) t
  | inr d ↦ (let l = h.loosened (omega (arith, d)) in
      grown_ascend p c.program tables (subst (Grown p.strings) (sym (ap (λ (q : Program). q.strings) l.rest)) (judged_grow p facts o admitted)) (ap (λ (q : Program). q.types) l.rest) t)
]
