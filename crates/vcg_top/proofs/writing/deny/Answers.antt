use Rattle.vcg_top.proofs.writing.deny.Goals as goal

pub returns-in-Broken-clause-refused : goal.returns-in-Broken-clause-refused
returns-in-Broken-clause-refused g c is = (c.in-Broken.fault, c.in-Broken.is, c.refuse.ensures.refused is)

pub returns-in-Broken-clause-part : goal.returns-in-Broken-clause-part
returns-in-Broken-clause-part g c is = (c.in-Broken.fault, c.in-Broken.is, c.refuse.ensures.part is)
