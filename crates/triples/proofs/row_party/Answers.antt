use Rattle.std.specs.Prelude.{◌≡◌}
use Rattle.lists.specs.Kit.{ap, ◌∙◌, arith, length}
use Rattle.rounds.specs.Area.{BITS, ZS, ES, at}
use Rattle.rounds.specs.Buckets.{later}
use Rattle.area.specs.GivenLaws.{place_at, place-fits}
use Rattle.triples.specs.Given.{number-entry, bucket-is, length-ds}
use Rattle.triples.specs.Laws.{entries_at}
use Rattle.triples.proofs.row_party.Goals as goal
use Rattle.triples.proofs.row_party.Goals.{After-ds-d}

-- what is lent are the sections

recs-are : (c : After-ds-d) → c.lent-recs.result.now ≡ at (c.args.f) BITS c.args.work.now
recs-are c = c.lent-recs.ensures ∙ place_at (c.args.f) BITS _ _ c.requires.work.2.recs c.args.work.now

es-are : (c : After-ds-d) → c.lent-es.result.now ≡ at (c.args.f) ES c.args.work.now
es-are c = c.lent-es.ensures ∙ place_at (c.args.f) ES _ _ c.requires.work.2.es c.args.work.now

long : (c : After-ds-d) → length c.ds-d.result.now ≡ later (c.args.f)
long c = ap length c.ds-d.ensures ∙ length-ds c.requires.work.0 c.args.j c.requires.work.1

pub party-requires : goal.party-requires
party-requires c =
    record {
      ranged = (c.requires.work.0.ranges, c.requires.work.3);
      bucketed = bucket-is c.args.j c.requires.work.0 (recs-are (goal.at.party-requires c).After-ds-d) (es-are
          (goal.at.party-requires c).After-ds-d) c.requires.numbered (long (goal.at.party-requires c).After-ds-d);
    }

pub returns : goal.returns
returns c =
    entries_at (c.args.f) c.args.delta.0 c.args.work.now c.args.j c.args.ts.now c.ds-d.result.now
    (number-entry (c.args.f) c.args.work.now c.args.j c.args.ts.now c.requires.numbered) c.ds-d.ensures (long
    (goal.at.returns c).After-ds-d) c.lent-recs.result.now
    (recs-are (goal.at.returns c).After-ds-d) c.lent-es.result.now c.args.k c.party.result (es-are (goal.at.returns c).After-ds-d)
    (c.party.ensures (at (c.args.f) ZS c.args.work.now))

pub lent-recs-requires : goal.lent-recs-requires
lent-recs-requires c = place-fits c.requires.work.0 BITS _ _ (omega arith) c.requires.work.2.recs

pub lent-es-requires : goal.lent-es-requires
lent-es-requires c = place-fits c.requires.work.0 ES _ _ (omega arith) c.requires.work.2.es

pub ds-d-requires : goal.ds-d-requires
ds-d-requires c = (c.requires.work.0, c.requires.work.1, c.requires.work.2)
