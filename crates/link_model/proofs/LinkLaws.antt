-- The rules of links over any files of a project are lawful.
use Rattle.demand_core.specs.Rules.{IsLawful}
use Rattle.demand_core.specs.Computed.{world, each_once}
use Rattle.demand_core.proofs.ComputedLaws.{lawful_computed, each_once_is_order}
use Rattle.std.specs.Prelude.{List}
use Rattle.element_store.specs.declared.models.StoredFile.{StoredFile}
use Rattle.element_store.specs.Stored.{AreFiles}
use Rattle.link_model.specs.Keys.{same_key, key_is_exact}
use Rattle.link_model.specs.Outside.{seen_in, library_of, keys_of}
use Rattle.link_model.specs.Linking.{Fits, rule, link_meaning}
use Rattle.link_model.proofs.RuleLaws.{rule_tame, keys_once, stands_among}
use Rattle.link_model.proofs.FitLaws.{gives_rule}

pub link_lawful : (files : List StoredFile) → AreFiles files → IsLawful (link_meaning files)
link_lawful files are = lawful_computed (each_once same_key) (each_once_is_order same_key key_is_exact) (keys_of files) (keys_once files) (λ k o. Fits files o)
    (seen_in files) (rule (library_of files)) (record {
      regular = λ k. (rule_tame (library_of files) k).regular;
      among = λ s k q member fit w. stands_among files s q ((rule_tame (library_of files) k).among (world (seen_in files) s) q w);
      fitting = λ s k v member fit e. (gives_rule files are s fit (library_of files) k).given v e;
    })
