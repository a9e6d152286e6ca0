-- What the answer of `CourierConfig::new` tells: question 11, and the settings.
-- Assumes nothing.
use Prim.Native.Nat.{ℕ}
use mathlib.Core.Bool.{Bool, true, false, cond}
use mathlib.Core.Path.{◌≡◌, refl, sym}
use Rattle.layout.specs.Questions.{COURIER_CONFIG}
use Rattle.layout.specs.Layout.{Answer, accepted, refused_by}
use Rattle.layout.proofs.Theorems.{accepted≢}
use Rattle.rows.specs.Checks.{courier_allowed}
use Rattle.device.specs.Device.{config_of, new_config}
use Rattle.device.specs.declared.CourierConfig.{CourierConfig}

module _ (enabled : Bool) (copies lifetime : ℕ) where
  abbrev Picked : Bool → Answer CourierConfig
  Picked t = cond t (accepted (config_of enabled copies lifetime)) (refused_by COURIER_CONFIG)

  pub config-yes : {c : CourierConfig} → accepted c ≡ new_config enabled copies lifetime → (courier_allowed copies lifetime ≡ true) × (c ≡ config_of enabled copies lifetime)
  unfolding new_config
  config-yes {c} e = go (courier_allowed copies lifetime) refl e
    where
      go : (t : Bool) → courier_allowed copies lifetime ≡ t → accepted c ≡ Picked t → (courier_allowed copies lifetime ≡ true) × (c ≡ config_of enabled copies lifetime)
      go true h e = (h, cc)
      go false h e = absurd (accepted≢ e)

  pub config-no : {q : ℕ} → refused_by q ≡ new_config enabled copies lifetime → (courier_allowed copies lifetime ≡ false) × (q ≡ COURIER_CONFIG)
  unfolding new_config
  config-no {q} e = go (courier_allowed copies lifetime) refl e
    where
      go : (t : Bool) → courier_allowed copies lifetime ≡ t → refused_by q ≡ Picked t → (courier_allowed copies lifetime ≡ false) × (q ≡ COURIER_CONFIG)
      go true h e = absurd (accepted≢ (sym e))
      go false h e = (h, cc)
