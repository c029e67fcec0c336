-- The lemmas that proofs of other crates cite: equal components, ancestors, the order after a
-- common directory, and where a name and its stem end.
pub use Rattle.unix_path.proofs.lemmas.order.EqualValueLemmas.{same_value-Decides}
pub use Rattle.unix_path.proofs.lemmas.names.AncestorLemmas.{ancestors_of-alone, ancestors_of-above}
pub use Rattle.unix_path.proofs.lemmas.order.CommonDirLemmas.{shares-common_dir}
pub use Rattle.unix_path.proofs.lemmas.order.CommonDirLemmas.{values_cmp-common_dir}
pub use Rattle.unix_path.proofs.lemmas.names.NamedLemmas.{name_end_of-ended, name_end_of-unnamed}
pub use Rattle.unix_path.proofs.lemmas.names.NamedLemmas.{name_end_of-take}
pub use Rattle.unix_path.proofs.lemmas.names.StemCutLemmas.{stem_end_of-take, stem_end_of-nameless}
