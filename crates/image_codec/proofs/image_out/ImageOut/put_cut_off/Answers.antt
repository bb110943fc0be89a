use Rattle.image_codec.proofs.OutLaws.{kept_on, kept_whole}
use Rattle.image_codec.proofs.image_out.ImageOut.put_cut_off.Goals as goal

pub returns-clause-written : goal.returns-clause-written
returns-clause-written c =
    let self = c.args.self.now in
    kept_on c.args.into.now c.put-end.new.into self.row.items c.deref.result.now self.from self.till c.put-end.result c.deref.ensures.value c.requires.cut c.put-end.ensures

pub returns-clause-whole : goal.returns-clause-whole
returns-clause-whole c =
    let self = c.args.self.now in
    kept_whole c.args.into.now c.put-end.new.into self.row.items c.deref.result.now self.from self.till c.put-end.result c.deref.ensures.value c.requires.cut c.put-end.ensures
