-- Words that lead to the end of a rule or an option, behind which another begins or none is left: no other way on through
-- them ends elsewhere, and none is refused.
use Rattle.std.proofs.Common.{◌≡◌, Bool, true, false, nat_eq, List, [], ◌∷◌, ◌++◌, Option, Some, None, refl, sym, ap, subst, ◌∙◌}
use Rattle.std.specs.List.{list_all}
use Rattle.rule_text.specs.Tokens.{Word}
use Rattle.rule_text.specs.Spelling.{begins_option}
use Rattle.rule_text.specs.Steps.{first_word}
use Rattle.rule_text.specs.ReadEntries.{behind}
use Rattle.rule_text.specs.Places.{Place, next_place, follow, is_final, from_option}
use Rattle.rule_text.proofs.OptionLemmas.{plain, ArePlain}
use Rattle.rule_text.proofs.PlaceLemmas.{first_true, second_true, not_true, clash, follow_none}

-- the words are none, or an option begins
abbrev pub begins : List Word → Bool
begins [] = true
begins (w ∷ ws) = begins_option w

no_word : (w : Word) (ws : List Word) → [] ≡ w ∷ ws → ⊥
no_word w ws e = cc

no_place : (p : Place) → None ≡ Some p → ⊥
no_place p e = cc

no_plain : (w : Word) → plain w ≡ true → begins_option w ≡ true → ⊥
no_plain w e begins = clash (sym (not_true (begins_option w) e) ∙ begins)

-- no option begins with such a word
pub plain_none : (w : Word) → plain w ≡ true → from_option w ≡ None
plain_none [] e = refl
plain_none (c ∷ cs) e =
    let dash : nat_eq c 45 ≡ false = not_true (nat_eq c 45) e in
    rw dash refl

-- the first word behind, where others were taken on
pub record Stretch (start : Place) (ws rest : List Word) : Type 0 where
  pub plain : ArePlain ws
  pub place : Place
  pub leads : follow (Some start) ws ≡ Some place
  pub final : is_final place ≡ true
  pub next : begins rest ≡ true

-- another way through words, which ends where an option begins or none does
pub record Ends (start : Place) (ws rest : List Word) : Type 0 where
  pub plain : ArePlain ws
  pub place : Place
  pub leads : follow (Some start) ws ≡ Some place
  pub final : is_final place ≡ true
  pub over : (rest ≡ [] → ⊥) → next_place place (first_word rest) ≡ from_option (first_word rest)

-- one that is refused
pub record Refuses (start : Place) (ws rest : List Word) : Type 0 where
  pub plain : ArePlain ws
  pub place : Place
  pub leads : follow (Some start) ws ≡ Some place
  pub refused : next_place place (first_word rest) ≡ None
  pub inside : is_final place ≡ true → (rest ≡ [] → ⊥) × (begins_option (first_word rest) ≡ false)

abbrev place_or : Place → Option Place → Place
place_or p (Some q) = q
place_or p None = p

same_place : (p q : Place) → Some p ≡ Some q → p ≡ q
same_place p q e = ap (place_or p) e

-- a word further on the same way
stretch_on : (p q : Place) (w : Word) (ws rest : List Word) → next_place p w ≡ Some q → Stretch p (w ∷ ws) rest → Stretch q ws rest
stretch_on p q w ws rest e s = record {
  plain = second_true (plain w) (list_all plain ws) s.plain;
  place = s.place;
  leads = ap (λ o. follow o ws) (sym e) ∙ s.leads;
  final = s.final;
  next = s.next;
}

ends_on : (p q : Place) (w : Word) (ws rest : List Word) → next_place p w ≡ Some q → Ends p (w ∷ ws) rest → Ends q ws rest
ends_on p q w ws rest e s = record {
  plain = second_true (plain w) (list_all plain ws) s.plain;
  place = s.place;
  leads = ap (λ o. follow o ws) (sym e) ∙ s.leads;
  final = s.final;
  over = s.over;
}

refuses_on : (p q : Place) (w : Word) (ws rest : List Word) → next_place p w ≡ Some q → Refuses p (w ∷ ws) rest → Refuses q ws rest
refuses_on p q w ws rest e s = record {
  plain = second_true (plain w) (list_all plain ws) s.plain;
  place = s.place;
  leads = ap (λ o. follow o ws) (sym e) ∙ s.leads;
  refused = s.refused;
  inside = s.inside;
}

-- the next word leads on
leads_on : (p : Place) (w : Word) (ws rest : List Word) → Stretch p (w ∷ ws) rest → next_place p w ≡ None → ⊥
leads_on p w ws rest s none = no_place s.place (sym (follow_none ws) ∙ ap (λ o. follow o ws) (sym none) ∙ s.leads)

-- words behind the end are an option's
option_next : (w : Word) (ws rest behind : List Word) → begins rest ≡ true → rest ≡ (w ∷ ws) ++ behind → ArePlain (w ∷ ws) → ⊥
option_next w ws rest behind next e all = no_plain w (first_true (plain w) (list_all plain ws) all) (ap begins (sym e) ∙ next)

pub same_end_by : (p : Place) (o : Option Place) (v : Word) (vs rest ws more : List Word) → next_place p v ≡ o → Stretch p (v ∷ vs) rest → Ends p (v ∷ ws) more → vs ++ rest ≡ ws ++ more
    → ((q : Place) → Stretch q vs rest → Ends q ws more → (vs ≡ ws) × (rest ≡ more)) → ((v ∷ vs) ≡ (v ∷ ws)) × (rest ≡ more)
same_end_by p None v vs rest ws more e s other is then = absurd (leads_on p v vs rest s e)
same_end_by p (Some q) v vs rest ws more e s other is then =
    let both = then q (stretch_on p q v vs rest e s) (ends_on p q v ws more e other) in
    (ap (λ xs. v ∷ xs) both.0, both.1)

-- both ways end at the same place
pub same_end : (p : Place) (vs rest ws more : List Word) → Stretch p vs rest → Ends p ws more → vs ++ rest ≡ ws ++ more → (vs ≡ ws) × (rest ≡ more)
same_end p [] rest [] more s other is = (refl, is)
same_end p [] rest (w ∷ ws) more s other is = absurd (option_next w ws rest more s.next is other.plain)
same_end p (v ∷ vs) rest [] more s other is =
    let there : p ≡ other.place = same_place p other.place other.leads in
    let first : first_word more ≡ v = ap first_word (sym is) in
    let over : next_place other.place (first_word more) ≡ from_option (first_word more) = other.over (λ e. no_word v (vs ++ rest) (sym e ∙ sym is)) in
    let none : next_place p v ≡ None = ap (λ q. next_place q v) there ∙ ap (next_place other.place) (sym first) ∙ over ∙ ap from_option first ∙ plain_none v (first_true (plain v) (list_all plain vs) s.plain) in
    absurd (leads_on p v vs rest s none)
same_end p (v ∷ vs) rest (w ∷ ws) more s other is =
    let first : w ≡ v = ap first_word (sym is) in
    let both : ((v ∷ vs) ≡ (v ∷ ws)) × (rest ≡ more) = same_end_by p (next_place p v) v vs rest ws more refl s (subst (λ x. Ends p (x ∷ ws) more) first other) (ap behind is) (λ q one two. same_end q vs rest ws more one two (ap behind is)) in
    (both.0 ∙ ap (λ x. x ∷ ws) (sym first), both.1)

not_refused_by : (p : Place) (o : Option Place) (v : Word) (vs rest ws more : List Word) → next_place p v ≡ o → Stretch p (v ∷ vs) rest → Refuses p (v ∷ ws) more
    → ((q : Place) → Stretch q vs rest → Refuses q ws more → ⊥) → ⊥
not_refused_by p None v vs rest ws more e s other then = leads_on p v vs rest s e
not_refused_by p (Some q) v vs rest ws more e s other then = then q (stretch_on p q v vs rest e s) (refuses_on p q v ws more e other)

begins_some : (rest : List Word) → begins rest ≡ true → (rest ≡ [] → ⊥) → begins_option (first_word rest) ≡ true
begins_some [] e some = absurd (some refl)
begins_some (w ∷ ws) e some = e

-- no way through them is refused
pub not_refused : (p : Place) (vs rest ws more : List Word) → Stretch p vs rest → Refuses p ws more → vs ++ rest ≡ ws ++ more → ⊥
not_refused p [] rest [] more s other is =
    let there : p ≡ other.place = same_place p other.place other.leads in
    let same : s.place ≡ p = same_place s.place p (sym s.leads) in
    let inside = other.inside (ap is_final (sym there ∙ sym same) ∙ s.final) in
    clash (sym inside.1 ∙ begins_some more (ap begins (sym is) ∙ s.next) inside.0)
not_refused p [] rest (w ∷ ws) more s other is = option_next w ws rest more s.next is other.plain
not_refused p (v ∷ vs) rest [] more s other is =
    let there : p ≡ other.place = same_place p other.place other.leads in
    let none : next_place p v ≡ None = ap (λ q. next_place q v) there ∙ ap (λ xs. next_place other.place (first_word xs)) is ∙ other.refused in
    leads_on p v vs rest s none
not_refused p (v ∷ vs) rest (w ∷ ws) more s other is =
    let first : w ≡ v = ap first_word (sym is) in
    not_refused_by p (next_place p v) v vs rest ws more refl s (subst (λ x. Refuses p (x ∷ ws) more) first other) (λ q one two. not_refused q vs rest ws more one two (ap behind is))
