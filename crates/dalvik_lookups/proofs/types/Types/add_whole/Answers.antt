use Rattle.std.proofs.Common.{refl, ap, sym, ◌∙◌, ◌++◌, ◌∷◌, [], true≢false, map, not, Bool, true, false, ◌≡◌}
use Rattle.std.proofs.lemmas.List.{map_push}
use Rattle.dalvik_lookups.specs.Views.{sort_of, names_of}
use Rattle.dalvik_lookups.proofs.Interned.{added_text, more_is, stands_behind, stands_there}
use Rattle.dalvik_lookups.proofs.types.Types.add_whole.Goals as goal

unmarked : (b : Bool) → not b ≡ true → b ≡ false
unmarked true e = absurd (true≢false (sym e))
unmarked false e = refl

marked : (b : Bool) → not b ≡ false → b ≡ true
marked true e = refl
marked false e = absurd (true≢false e)

pub returns-in_ok-push-clause-added : goal.returns-in_ok-push-clause-added
returns-in_ok-push-clause-added c = λ k.
    let a = added_text (λ u. u.now) _ (λ a b. refl) c.args.self.now.names.keys c.insert_full.new.self.keys c.args.units c.in_ok-number.number k.once c.in_ok-number.ensures.keys c.in_ok-number.ensures.index in
    record {
      kept = record {
        once = a.once;
        sorts = c.in_ok-push.ensures.items ∙ ap (λ x. c.args.self.now.sorts.items ++ x ∷ []) c.sort_of.ensures ∙ ap (λ s. s ++ sort_of c.args.units.now ∷ []) (k.sorts) ∙ sym (map_push sort_of (names_of c.args.self.now) c.args.units.now)
            ∙ sym (ap (map sort_of) (stands_behind (λ u. u.now) _ (λ a b. refl) c.args.self.now.names.keys c.insert_full.new.self.keys c.args.units c.in_ok-number.ensures.keys (unmarked _ (sym c.in_ok-number.ensures.added ∙ c.if-added.true))));
      };
      stays = a.stays;
      there = a.there;
    }

pub returns-in_ok-push-clause-names : goal.returns-in_ok-push-clause-names
returns-in_ok-push-clause-names c = more_is (λ u. u.now) _ (λ a b. refl) c.args.self.now.names.keys c.insert_full.new.self.keys c.args.units c.in_ok-number.ensures.keys

pub returns-else-added-clause-added : goal.returns-else-added-clause-added
returns-else-added-clause-added c = λ k.
    let a = added_text (λ u. u.now) _ (λ a b. refl) c.args.self.now.names.keys c.insert_full.new.self.keys c.args.units c.in_ok-number.number k.once c.in_ok-number.ensures.keys c.in_ok-number.ensures.index in
    record {
      kept = record {
        once = a.once;
        sorts = k.sorts ∙ sym (ap (map sort_of) (stands_there (λ u. u.now) _ (λ a b. refl) c.args.self.now.names.keys c.insert_full.new.self.keys c.args.units c.in_ok-number.ensures.keys (marked _ (sym c.in_ok-number.ensures.added ∙ c.if-added.false))));
      };
      stays = a.stays;
      there = a.there;
    }

pub returns-else-added-clause-names : goal.returns-else-added-clause-names
returns-else-added-clause-names c = more_is (λ u. u.now) _ (λ a b. refl) c.args.self.now.names.keys c.insert_full.new.self.keys c.args.units c.in_ok-number.ensures.keys
