-- What a qualified name finds stands.
use Rattle.std.proofs.Common.{◌≡◌, ℕ, List, [], ◌∷◌, refl, inl}
use Rattle.linker_base.specs.Members.{IsMember}
use Rattle.demand_core.specs.Computed.{world}
use Rattle.demand_core.specs.Least.{least}
use Rattle.demand_core.specs.Rules.{WaitsOn}
use Rattle.demand_core.specs.declared.step.Step.{Step}
use Rattle.demand_core.specs.declared.step.Step.TheVariants.{Done, Waits}
use Rattle.demand_core.proofs.LeastLaws.{least_fits}
use Rattle.element_store.specs.declared.outcome.Outcome.{Outcome}
use Rattle.element_store.specs.Stored.{AreFiles}
use Rattle.link_model.specs.declared.keys.LinkKey.{LinkKey}
use Rattle.link_model.specs.Asking.{find_by}
use Rattle.link_model.specs.Keys.{same_key, key_is_exact}
use Rattle.link_model.specs.Linking.{Fits, found_by, least_first, link_meaning, sorted_step}
use Rattle.link_model.specs.Outside.{keys_of, library_of, seen_in}
use Rattle.link_model.specs.Readers.{LinkWorld}
use Rattle.link_model.proofs.FitLaws.{gives_find}
use Rattle.link_model.proofs.LinkLaws.{link_lawful}
use Rattle.link_model.proofs.RuleLaws.{least_first_tame, stands_among}
use Rattle.link_model.proofs.TameLaws.{find_tame}
use Rattle.book_model.specs.Files.{ProjectFile, stored}
use Rattle.book_model.specs.Live.{NamesLive}
use Rattle.book_model.specs.Outcomes.{found_of}
use Rattle.book_model.proofs.LiveLaws.{fits_live, key_live}

-- the outcome of a finding, by its step
step_live : (files : List ProjectFile) (step : Step LinkKey Outcome) → ((o : Outcome) → step ≡ Done o → Fits (stored files) o)
    → ((q : LinkKey) → WaitsOn step q → IsMember (keys_of (stored files)) q) → NamesLive files (found_by step)
step_live files (Done o) fits waits = fits_live files o (fits o refl)
step_live files (Waits []) fits waits = tt
step_live files (Waits (k ∷ ks)) fits waits = key_live files k.0 (waits k (inl refl))

-- in order of references or not, a decided step is decided
sorted_done : (w : LinkWorld) (step : Step LinkKey Outcome) (o : Outcome) → sorted_step w step ≡ Done o → step ≡ Done o
sorted_done w (Done x) o e = e
sorted_done w (Waits ks) o e = cc

-- WHAT A QUALIFIED NAME FINDS stands
pub found_live : (files : List ProjectFile) (path : List (List ℕ)) → AreFiles (stored files) → NamesLive files (found_of (stored files) path)
found_live files path are =
    let fs = stored files in
    let lib = library_of fs in
    let m = link_meaning fs in
    let table = least same_key m in
    let fit = least_fits same_key key_is_exact m (link_lawful fs are) in
    let w = world (seen_in fs) table in
    step_live files (least_first (find_by lib path) w).step
    (λ o e. (gives_find fs are table fit lib path).given o (sorted_done w (find_by lib path w).step o e))
    (λ q waits. stands_among fs table q ((least_first_tame (find_by lib path) (find_tame lib path)).among w q waits))
