use Rattle.std.proofs.Common.{refl}
use Rattle.dalvik_lookups.proofs.Interned.{added_text}
use Rattle.dalvik_lookups.proofs.declared.Spellings.add.Goals as goal

pub returns : goal.returns
returns c = λ k.
    let a = added_text (λ u. u.items) _ (λ a b. refl) c.args.self.now.numbers.keys c.insert_full.new.self.keys c.args.units c.in_ok-number.number k c.in_ok-number.ensures.keys c.in_ok-number.ensures.index in
    record { once = a.once; stays = a.stays; there = a.there }
