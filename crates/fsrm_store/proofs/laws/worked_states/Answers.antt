-- Each example computes.
use Rattle.std.proofs.Common.{refl}
use Rattle.std.specs.Str.{chars, is_utf8}
use Rattle.std.specs.Str.Lossy.{utf8_valid_len}
use Rattle.ucd_case.specs.CaseFolding.{simple_folding}
use Rattle.ucd_case.specs.SimpleFoldingRows.{simple_folding_rows}
use Rattle.ucd_table.specs.Rows.{value_in}
use Rattle.fsrm_journal.specs.Heads.{has_zeros, has_magic, has_generation, has_version, has_nodes, has_names, has_cluster, has_image}
use Rattle.record_fields.specs.Formats.{number_at, text_at, known_at, optional_at, items_at, listed_at}
use Rattle.record_codec.specs.Fields.{path_of}
use Rattle.fsrm_store.proofs.laws.worked_states.Goals as goal

pub returns-clause-no_bytes : goal.returns-clause-no_bytes
unfolding has_zeros has_magic has_generation has_version has_nodes has_names has_cluster has_image number_at text_at known_at optional_at items_at listed_at path_of simple_folding simple_folding_rows value_in chars is_utf8 utf8_valid_len lib.Utf8.encode
returns-clause-no_bytes c = refl

pub returns-clause-closed_gates : goal.returns-clause-closed_gates
unfolding has_zeros has_magic has_generation has_version has_nodes has_names has_cluster has_image number_at text_at known_at optional_at items_at listed_at path_of simple_folding simple_folding_rows value_in chars is_utf8 utf8_valid_len lib.Utf8.encode
returns-clause-closed_gates c = refl

pub returns-clause-new_store : goal.returns-clause-new_store
unfolding has_zeros has_magic has_generation has_version has_nodes has_names has_cluster has_image number_at text_at known_at optional_at items_at listed_at path_of simple_folding simple_folding_rows value_in chars is_utf8 utf8_valid_len lib.Utf8.encode
returns-clause-new_store c = refl

pub returns-clause-newer_half : goal.returns-clause-newer_half
unfolding has_zeros has_magic has_generation has_version has_nodes has_names has_cluster has_image number_at text_at known_at optional_at items_at listed_at path_of simple_folding simple_folding_rows value_in chars is_utf8 utf8_valid_len lib.Utf8.encode
returns-clause-newer_half c = refl

pub returns-clause-one_record : goal.returns-clause-one_record
unfolding has_zeros has_magic has_generation has_version has_nodes has_names has_cluster has_image number_at text_at known_at optional_at items_at listed_at path_of simple_folding simple_folding_rows value_in chars is_utf8 utf8_valid_len lib.Utf8.encode
returns-clause-one_record c = refl

pub returns-clause-refused_record : goal.returns-clause-refused_record
unfolding has_zeros has_magic has_generation has_version has_nodes has_names has_cluster has_image number_at text_at known_at optional_at items_at listed_at path_of simple_folding simple_folding_rows value_in chars is_utf8 utf8_valid_len lib.Utf8.encode
returns-clause-refused_record c = refl

pub returns-clause-closed_record : goal.returns-clause-closed_record
unfolding has_zeros has_magic has_generation has_version has_nodes has_names has_cluster has_image number_at text_at known_at optional_at items_at listed_at path_of simple_folding simple_folding_rows value_in chars is_utf8 utf8_valid_len lib.Utf8.encode
returns-clause-closed_record c = refl
