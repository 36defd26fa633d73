use Rattle.name_bridge.proofs.Tables.{sound}
use Rattle.name_bridge.proofs.Candidates.{among_by_number, finds_at_by_number}
use Rattle.name_bridge.proofs.laws.finding_law.Goals as goal

pub returns : goal.returns
returns c = record {
  among = λ p n q ks h once hn hq. among_by_number p (sound p h) n q hn hq once ks;
  receivers = λ p n q r c t h once hn hq. finds_at_by_number p (sound p h) n q hn hq once r c t;
}
