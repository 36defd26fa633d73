use Rattle.std.proofs.Common.{subst, sym, []}
use Rattle.class_defs.proofs.WellFormed.{sound}
use Rattle.keep_rules.specs.Entries.{IsMarked}
use Rattle.keep_rules.proofs.TableLemmas.{table_is}
use Rattle.keep_rules.proofs.DescribedLemmas.{class_pairs}
use Rattle.keep_rules.specs.Described.{Pairs}
use Rattle.keep_rules.proofs.outside.outside_of.Goals as goal

pub returns-clause-table : goal.returns-clause-table
returns-clause-table c = λ es formed of are.
    let p = c.args.program.now in
    let m = c.in_ok-marks.marks in
    let ready = c.in_ok-view.ensures.ready formed of in
    let pairs = subst (λ q. Pairs q (class_pairs q c.as_slice.result.now c.as_slice-2.result.now q.classes) [] c.in_ok-pairs.pairs.items) c.in_ok-view.ensures.program (c.in_ok-pairs.ensures ready) in
    let fields = subst (λ l. Pairs p (class_pairs p l c.as_slice-2.result.now p.classes) [] c.in_ok-pairs.pairs.items) c.as_slice.ensures.value pairs in
    let methods = subst (λ l. Pairs p (class_pairs p m.fields.described_live.items l p.classes) [] c.in_ok-pairs.pairs.items) c.as_slice-2.ensures.value fields in
    let all = subst (λ l. Pairs p (class_pairs p m.fields.described_live.items m.methods.described_live.items p.classes) [] l) (sym c.as_slice-3.ensures.value) methods in
    table_is p (sound p formed) of.once es m (subst (λ q. IsMarked q es m) c.in_ok-view.ensures.program (c.in_ok-marks.ensures es ready are)) c.as_slice-3.result.now c.in_ok-outside.outside all
    c.in_ok-outside.ensures.lists (c.in_ok-outside.ensures.flags es are) c.in_ok-outside.ensures.within c.in_ok-outside.ensures.shut
