use Rattle.type_sites.proofs.SitesDefined.{sites-are-defined, sites-can-be-defined}
use Rattle.type_sites.proofs.SitesNamed.{sites-are-named}
use Rattle.type_sites.proofs.SitesWritten.{sites-can-be-written}
use Rattle.type_sites.proofs.laws.site_law.Goals as goal

pub returns-clause-defined : goal.returns-clause-defined
returns-clause-defined c = sites-are-defined

pub returns-clause-can_be : goal.returns-clause-can_be
returns-clause-can_be c = sites-can-be-defined

pub returns-clause-written : goal.returns-clause-written
returns-clause-written c = sites-can-be-written

pub returns-clause-named : goal.returns-clause-named
returns-clause-named c = sites-are-named
